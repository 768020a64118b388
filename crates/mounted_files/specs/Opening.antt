-- What the files of a store mean at an opening. (After Elektra's page on mounting; the limits are this project's own.)
use Rattle.std.specs.Prelude.{◌≡◌, ◌≢◌, ℕ, List, Result, Ok, Err, map as over}
use Rattle.general_words.specs.Memory.{UnlessMemory}
use Rattle.kdb_outside.specs.declared.kinds.Kind.TheVariants.{Dump}
use Rattle.model_maps.specs.KeyMap.{KeyMap}
use Rattle.mount_table.specs.Points.{own_point}
use Rattle.mount_table.specs.Table.{table_of, own_mount}
use Rattle.mount_table.specs.declared.faults.TableFault.{TableFault}
use Rattle.mount_table.specs.declared.mounts.Mount.{Mount}
use Rattle.mounted_files.specs.Files.{Reading, Badness, Holds, IsCause, AreStates, points_of}
use Rattle.mounted_files.specs.Weighed.{weighed}
use Rattle.mounted_files.specs.declared.causes.Cause.TheVariants as cause
use Rattle.mounted_files.specs.declared.files.MountedFile.{MountedFile}
use Rattle.mounted_files.specs.declared.refusals.OpenRefusal.{OpenRefusal}
use Rattle.mounted_files.specs.declared.refusals.OpenRefusal.TheVariants as refusal

-- the file of the table's own keys holds keys that make these mounts, or are at fault
pub record MakesTable (Reads : Reading) (bytes : List ℕ) (made : Result (List Mount) TableFault) : Type 0 where
  pub keys : KeyMap
  pub holds : Holds Reads own_point Dump bytes keys
  pub is : table_of keys ≡ made

-- some keys make these mounts
pub record IsMadeByKeys (mounts : List Mount) : Type 0 where
  pub keys : KeyMap
  pub is : table_of keys ≡ Ok mounts

-- what is wrong with the file of the table's own keys, as a refusal tells it
abbrev pub IsOwnFault : Reading → Badness → List ℕ → OpenRefusal → Type 0
IsOwnFault Reads IsBad bytes (refusal.TooLong n) = IsCause Reads IsBad own_point Dump bytes (cause.TooLong n)
IsOwnFault Reads IsBad bytes (refusal.BadFile line) = IsCause Reads IsBad own_point Dump bytes (cause.BadFile line)
IsOwnFault Reads IsBad bytes (refusal.BadTable fault) = MakesTable Reads bytes (Err fault)
IsOwnFault Reads IsBad bytes refusal.Memory = ⊥

-- why a store isn't opened, by the file of the table's own keys; want of memory tells nothing
abbrev pub RefusesOpening : Reading → Badness → List ℕ → OpenRefusal → Type 0
RefusesOpening Reads IsBad bytes why = UnlessMemory refusal.Memory (IsOwnFault Reads IsBad bytes why) why

-- what the files mean: the mounts of the table, each with the state of its file, all weighed together
pub record IsOpened (Reads : Reading) (IsBad : Badness) (bytes_of : List ℕ → List ℕ) (files : List MountedFile) : Type 0 where
  pub unweighed : List MountedFile
  pub table : MakesTable Reads (bytes_of own_mount.file) (Ok (over (λ file. file.mount) unweighed))
  pub states : AreStates Reads IsBad bytes_of (points_of unweighed) unweighed
  pub is : files ≡ weighed unweighed

-- an opening gives what the files mean, or is refused
abbrev pub Opens : Reading → Badness → (List ℕ → List ℕ) → Result (List MountedFile) OpenRefusal → Type 0
Opens Reads IsBad bytes_of (Ok files) = IsOpened Reads IsBad bytes_of files
Opens Reads IsBad bytes_of (Err why) = RefusesOpening Reads IsBad (bytes_of own_mount.file) why

-- an opening that isn't left off for want of memory
abbrev pub IsMade : Result (List MountedFile) OpenRefusal → Type 0
IsMade (Ok files) = Unit {0}
IsMade (Err why) = why ≢ refusal.Memory
