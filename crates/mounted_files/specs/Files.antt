-- What the bytes of a mount's file mean: its keys, or why it is bad. (After Elektra's page on mounting; the limits are
-- this project's own.)
use Rattle.std.specs.Prelude.{◌≡◌, ◌⊎◌, ℕ, ◌<◌, ◌≤◌, true, false, List, length, slice_get, Some, map as over}
use Rattle.backend_files.specs.WholeFile.{longest_file}
use Rattle.kdb_outside.specs.declared.kinds.Kind.{Kind}
use Rattle.model_names.specs.Name.{Name}
use Rattle.model_maps.specs.KeyMap.{KeyMap}
use Rattle.mount_table.specs.declared.mounts.Mount.{Mount}
use Rattle.set_split.specs.Parts.{owned_by}
use Rattle.mounted_files.specs.Owned.{not_owned_by}
use Rattle.mounted_files.specs.Whole.{whole, all_fit}
use Rattle.mounted_files.specs.declared.causes.Cause.{Cause}
use Rattle.mounted_files.specs.declared.causes.Cause.TheVariants.{TooLong, BadFile, TooHeavy}
use Rattle.mounted_files.specs.declared.files.FileState.{FileState}
use Rattle.mounted_files.specs.declared.files.FileState.TheVariants.{Good, Bad}
use Rattle.mounted_files.specs.declared.files.MountedFile.{MountedFile}

-- which bytes read as which keys, in which format
abbrev pub Reading : Type 1
Reading = Kind → List ℕ → KeyMap → Type 0

-- which bytes are bad at which line, in which format
abbrev pub Badness : Type 1
Badness = Kind → List ℕ → ℕ → Type 0

-- few enough bytes read as some keys, whose whole names all fit or not
pub record ReadsAs (Reads : Reading) (kind : Kind) (bytes : List ℕ) (keys : KeyMap) : Type 0 where
  pub few : length bytes ≤ longest_file
  pub reads : Reads kind bytes keys

-- few enough bytes read as keys that have these whole names
pub record Holds (Reads : Reading) (point : Name) (kind : Kind) (bytes : List ℕ) (found : KeyMap) : Type 0 where
  pub keys : KeyMap
  pub reads_as : ReadsAs Reads kind bytes keys
  pub fit : all_fit point keys ≡ true
  pub is : found ≡ whole point keys

-- few enough bytes are bad at a line
pub record IsBadAt (IsBad : Badness) (kind : Kind) (bytes : List ℕ) (line : ℕ) : Type 0 where
  pub few : length bytes ≤ longest_file
  pub bad : IsBad kind bytes line

-- few enough bytes read as keys of which one has a whole name that is too long; it is told as line 0
pub record HasLongName (Reads : Reading) (point : Name) (kind : Kind) (bytes : List ℕ) (line : ℕ) : Type 0 where
  pub keys : KeyMap
  pub reads_as : ReadsAs Reads kind bytes keys
  pub too_long : all_fit point keys ≡ false
  pub is : line ≡ 0

-- a file has more bytes than are read
pub record IsOverLong (bytes : List ℕ) (n : ℕ) : Type 0 where
  pub long : longest_file < length bytes
  pub is : n ≡ length bytes

-- why a file by itself is bad
abbrev pub IsCause : Reading → Badness → Name → Kind → List ℕ → Cause → Type 0
IsCause Reads IsBad point kind bytes (TooLong n) = IsOverLong bytes n
IsCause Reads IsBad point kind bytes (BadFile line) =
    IsBadAt IsBad kind bytes line ⊎ HasLongName Reads point kind bytes line
IsCause Reads IsBad point kind bytes (TooHeavy weight) = ⊥

-- what the file of a mount means: those of its keys that the mount owns are visible, the others are its shadow
abbrev pub IsState : Reading → Badness → List Name → ℕ → Mount → List ℕ → FileState → Type 0
IsState Reads IsBad points i mount bytes (Good visible shadow) =
    (found : KeyMap) × Holds Reads mount.at mount.kind bytes found × (visible ≡ owned_by points i found) × (shadow ≡ not_owned_by points i found)
IsState Reads IsBad points i mount bytes (Bad cause) = IsCause Reads IsBad mount.at mount.kind bytes cause

-- the mountpoints of mounted files
abbrev pub points_of : List MountedFile → List Name
points_of files = over (λ file. file.mount.at) files

-- each file means its state, where the bytes of each file are known by its name
abbrev pub AreStates : Reading → Badness → (List ℕ → List ℕ) → List Name → List MountedFile → Type 0
AreStates Reads IsBad bytes_of points files =
    (i : ℕ) (file : MountedFile) → slice_get files i ≡ Some file → IsState Reads IsBad points i file.mount (bytes_of file.mount.file) file.state
