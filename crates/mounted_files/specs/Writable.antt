-- Files that can be written again as they are: whatever bytes they were read from. (This project's own.)
use Rattle.std.specs.Prelude.{◌≡◌, ℕ, true, List, slice_get, Some, map as over}
use Rattle.std.specs.FinMap as map
use Rattle.kdb_outside.specs.declared.kinds.Kind.{Kind}
use Rattle.kdb_outside.specs.declared.kinds.Kind.TheVariants.{Dump}
use Rattle.key_set.specs.WithAll.{with_all}
use Rattle.model_names.specs.Name.{Name}
use Rattle.model_maps.specs.Entry.{Entry}
use Rattle.model_maps.specs.KeyMap.{KeyMap}
use Rattle.mount_table.specs.Points.{own_point}
use Rattle.mount_table.specs.Table.{own_mount}
use Rattle.mount_table.specs.declared.mounts.Mount.{Mount}
use Rattle.set_split.specs.Involved.{owns}
use Rattle.mounted_files.specs.Begun.{Begun, number_of}
use Rattle.mounted_files.specs.Files.{points_of}
use Rattle.mounted_files.specs.Whole.{relative}
use Rattle.mounted_files.specs.declared.files.FileState.{FileState}
use Rattle.mounted_files.specs.declared.files.FileState.TheVariants as state
use Rattle.mounted_files.specs.declared.files.MountedFile.{MountedFile}
use Rattle.mounted_files.specs.declared.holding.Holding.{Holding}
use Rattle.mounted_files.specs.declared.holding.Holding.TheVariants.{Keys, Bad}

-- which keys a file can hold, in which format
abbrev pub Storing : Type 1
Storing = Kind → KeyMap → Type 0

-- the keys that bytes hold at a point can be stored again
abbrev pub CanBeStored : Storing → Name → Kind → Holding → Type 0
CanBeStored IsStorable point kind (Keys keys) = IsStorable kind (relative point keys)
CanBeStored IsStorable point kind (Bad cause) = Unit {0}

-- those of the table's own file
abbrev pub CanBeTable : Storing → KeyMap → Type 0
CanBeTable IsStorable keys = IsStorable Dump (relative own_point keys)

-- the mount owns each visible key of a file, and what is visible and the shadow together can be stored
pub record HoldsStorable (IsStorable : Storing) (points : List Name) (i : ℕ) (mount : Mount) (visible shadow : KeyMap) : Type 0 where
  pub owned : (name : Name) (entry : Entry) → map.get visible name ≡ Some entry → owns points i name ≡ true
  pub storable : IsStorable mount.kind (relative mount.at (with_all visible shadow))

-- a good file is such
abbrev pub CanBeWritten : Storing → List Name → ℕ → Mount → FileState → Type 0
CanBeWritten IsStorable points i mount (state.Good visible shadow) =
    HoldsStorable IsStorable points i mount visible shadow
CanBeWritten IsStorable points i mount (state.Bad cause) = Unit {0}

-- each file of an opening so far can be written again
pub record CanBeWrittenSoFar (IsStorable : Storing) (begun : Begun) : Type 0 where
  pub own : CanBeWritten IsStorable (over (λ mount. mount.at) begun.table) begun.place own_mount begun.own
  pub others : (i : ℕ) (file : MountedFile) → slice_get begun.files i ≡ Some file
      → CanBeWritten IsStorable (over (λ mount. mount.at) begun.table) (number_of begun.place i) file.mount file.state

-- each of some files can
abbrev pub AllCanBeWritten : Storing → List MountedFile → Type 0
AllCanBeWritten IsStorable files =
    (i : ℕ) (file : MountedFile) → slice_get files i ≡ Some file → CanBeWritten IsStorable (points_of files) i file.mount file.state
