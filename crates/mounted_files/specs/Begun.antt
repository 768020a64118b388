-- An opening that has begun: the table and the place of its own mount there, the state of its own file, and the files
-- of the first of the other mounts, all of them weighed. (This project's own.)
use Rattle.std.specs.Prelude.{ℕ, nat_lt, if◌then◌else◌, suc, List}
use Rattle.std.specs.List.{remove}
use Rattle.mount_table.specs.declared.mounts.Mount.{Mount}
use Rattle.mounted_files.specs.declared.files.FileState.{FileState}
use Rattle.mounted_files.specs.declared.files.MountedFile.{MountedFile}

pub record Begun : Type 0 where
  pub table : List Mount
  pub place : ℕ
  pub own : FileState
  pub files : List MountedFile

-- the other mounts, in the order of the table
abbrev pub others : Begun → List Mount
others begun = remove begun.table begun.place

-- the number that the mount of this number among the others has in the table
abbrev pub number_of : ℕ → ℕ → ℕ
number_of place i = if nat_lt i place then i else suc i
