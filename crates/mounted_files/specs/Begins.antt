-- What the files that were added to an opening mean. (This project's own.)
use Rattle.std.specs.Prelude.{◌≡◌, ℕ, List, slice_get, Some, Ok, map as over}
use Rattle.mount_table.specs.Table.{own_mount}
use Rattle.mounted_files.specs.Begun.{Begun, number_of}
use Rattle.mounted_files.specs.Files.{Reading, Badness, IsState}
use Rattle.mounted_files.specs.Opening.{MakesTable}
use Rattle.mounted_files.specs.Weighed.{visible_weight, weighed_behind, weighed_from}
use Rattle.mounted_files.specs.declared.files.FileState.{FileState}
use Rattle.mounted_files.specs.declared.files.MountedFile.{MountedFile}

-- the table's own file makes the table, and is weighed first; each other file means its state, weighed behind those
-- before it
pub record Begins (Reads : Reading) (IsBad : Badness) (bytes_of : List ℕ → List ℕ) (begun : Begun) : Type 0 where
  pub table : MakesTable Reads (bytes_of own_mount.file) (Ok begun.table)
  pub own_state : FileState
  pub own_is : IsState Reads IsBad (over (λ mount. mount.at) begun.table) begun.place own_mount (bytes_of own_mount.file) own_state
  pub own : begun.own ≡ weighed_behind 0 own_state
  pub unweighed : List MountedFile
  pub states : (i : ℕ) (file : MountedFile) → slice_get unweighed i ≡ Some file
      → IsState Reads IsBad (over (λ mount. mount.at) begun.table) (number_of begun.place i) file.mount (bytes_of file.mount.file) file.state
  pub is : begun.files ≡ weighed_from (visible_weight begun.own) unweighed
