-- What the files of touched mounts are to hold, their texts, and what is refused of them, mount by mount.
use Rattle.std.specs.Prelude.{◌≡◌, ◌⊎◌, ℕ, if◌then◌else◌, List, [], ◌∷◌, ◌++◌, map as over, slice_get, Option, Some, None, option_and_then}
use Rattle.std.specs.FinMap.Entries.{put}
use Rattle.std.specs.List.{AllByRecursion}
use Rattle.std.specs.Option.{option_map, option_map_or, option_or}
use Rattle.general_words.specs.Memory.{UnlessMemory}
use Rattle.general_words.specs.Searches.{first_some}
use Rattle.general_words.specs.Texts.{text_cmp}
use Rattle.journal_codec.specs.declared.files.FileText.{FileText}
use Rattle.key_name.specs.Joining.{joined}
use Rattle.key_set.specs.WithAll.{with_all}
use Rattle.model_files.specs.Texts.{as_entry, as_file, texts_at}
use Rattle.model_maps.specs.KeyMap.{KeyMap, no_keys}
use Rattle.model_maps.specs.Limits.{IsLimited}
use Rattle.model_names.specs.Name.{Name}
use Rattle.model_names.specs.Order.{name_eq}
use Rattle.model_store.specs.Fitting.{Early, ValueTooLong, fault_of_table, heavy_contents, long_text}
use Rattle.model_store.specs.Sets as model
use Rattle.model_store.specs.Store.{Store, Formats, points_at, shadow_of}
use Rattle.model_store.specs.Verdicts.{IsEarly, not_fetched, wanted_in}
use Rattle.mount_table.specs.Points.{own_point}
use Rattle.mount_table.specs.Table.{table_of}
use Rattle.mount_table.specs.declared.mounts.Mount.{Mount}
use Rattle.mounted_files.specs.Setting.{first_long_in}
use Rattle.mounted_files.specs.Sound.{AreNames, AreSound}
use Rattle.mounted_files.specs.Whole.{relative}
use Rattle.mounted_files.specs.declared.files.MountedFile.{MountedFile}
use Rattle.store_verdict.specs.Preparing.{fault_of}
use Rattle.store_verdict.specs.declared.faults.PrepareFault.{PrepareFault}
use Rattle.store_verdict.specs.declared.faults.PrepareFault.TheVariants as fault
use Rattle.store_verdict.specs.declared.files.FileToWrite.{FileToWrite}
use Rattle.store_verdict.specs.declared.writing.WrittenFile.{WrittenFile}

-- ---- what files are to hold, and their texts

-- what the file of a mount is to hold, by what is wanted there and what it keeps for others
abbrev pub contents_of : List MountedFile → ℕ × KeyMap → KeyMap
contents_of files part =
    option_map_or (λ file. relative file.mount.at (with_all part.1 (shadow_of file.state))) (slice_get files part.0) no_keys

abbrev pub file_of : List MountedFile → ℕ × KeyMap → FileToWrite
file_of files part = record { mount = part.0; contents = contents_of files part }

-- its text
abbrev pub written_of : Formats → List Mount → FileToWrite → WrittenFile
written_of formats mounts file =
    record {
      mount = file.mount;
      bytes = option_map_or (λ mount. formats.text mount.kind file.contents) (slice_get mounts file.mount) [];
    }

-- texts by the names of their files
abbrev pub with_written : List Mount → WrittenFile → List (List ℕ × List ℕ) → List (List ℕ × List ℕ)
with_written mounts written texts =
    option_map_or (λ mount. put text_cmp mount.file written.bytes texts) (slice_get mounts written.mount) texts

abbrev pub by_name : List Mount → List WrittenFile → List (List ℕ × List ℕ)
by_name mounts [] = []
by_name mounts (written ∷ all) = with_written mounts written (by_name mounts all)

-- ---- what is refused of each

abbrev pub long_told : List Mount → List ℕ → KeyMap → Option Early
long_told table mounts keys =
    option_map (λ long. ValueTooLong long.0 long.1) (first_long_in (points_at table) mounts keys)

abbrev pub heavy_at : List Mount → FileToWrite → Option Early
heavy_at mounts file = option_and_then (λ mount. heavy_contents file.mount file.contents) (slice_get mounts file.mount)

abbrev pub long_at : List Mount → WrittenFile → Option Early
long_at mounts written =
    option_and_then (λ mount. long_text written.mount written.bytes) (slice_get mounts written.mount)

abbrev pub table_at : List Mount → ℕ × KeyMap → Option Early
table_at mounts part =
    option_and_then (λ mount. if name_eq mount.at own_point then fault_of_table (table_of part.1) else None) (slice_get mounts part.0)

-- a fault is that of what is told
pub record Tells (mounts : List Mount) (told : Option Early) (why : PrepareFault) : Type 0 where
  pub early : Early
  pub first : told ≡ Some early
  pub is : fault_of mounts early ≡ Some why

-- want of memory tells nothing
abbrev pub IsTold : List Mount → Option Early → PrepareFault → Type 0
IsTold mounts told why = UnlessMemory fault.Memory (Tells mounts told why) why

-- ---- what formats can hold

abbrev pub IsStorableFile : Formats → List Mount → FileToWrite → Type 0
IsStorableFile formats mounts file =
    (mount : Mount) → slice_get mounts file.mount ≡ Some mount → formats.IsStorable mount.kind file.contents

-- the format of a file can't hold a key, and a fault tells the whole name
pub record BreaksFile (formats : Formats) (mounts : List Mount) (file : FileToWrite) (why : PrepareFault) : Type 0 where
  pub mount : Mount
  pub there : slice_get mounts file.mount ≡ Some mount
  pub key : Name
  pub breaks : formats.BreaksAt mount.kind file.contents key
  pub is : why ≡ fault.NotStorable mount.at (joined mount.at key)

-- so it is for the first of some files that can't be stored
pub record BreaksAmong (formats : Formats) (mounts : List Mount) (files : List FileToWrite) (why : PrepareFault) : Type 0 where
  pub before : List FileToWrite
  pub file : FileToWrite
  pub behind : List FileToWrite
  pub stand : files ≡ before ++ file ∷ behind
  pub storable : AllByRecursion (IsStorableFile formats mounts) before
  pub breaks : BreaksFile formats mounts file why

-- what a file is to hold are keys with sound names and texts
abbrev pub IsSoundFile : List Mount → FileToWrite → Type 0
IsSoundFile mounts file = (mount : Mount) → slice_get mounts file.mount ≡ Some mount → AreSound mount.at file.contents

-- a format can be asked for its text: it is within the limits, and the whole names are names
abbrev pub IsWritable : List Mount → FileToWrite → Type 0
IsWritable mounts file =
    (mount : Mount) → slice_get mounts file.mount ≡ Some mount → IsLimited file.contents × AreNames mount.at file.contents

-- ---- all of them

-- the files can be stored, and these are their texts
pub record AreWritten (formats : Formats) (mounts : List Mount) (files : List FileToWrite) (parts : List (ℕ × KeyMap)) (texts : List FileText) : Type 0 where
  pub storable : AllByRecursion (IsStorableFile formats mounts) files
  pub short : first_some (long_at mounts) (over (written_of formats mounts) files) ≡ None
  pub table : first_some (table_at mounts) parts ≡ None
  pub are : texts ≡ over as_file (by_name mounts (over (written_of formats mounts) files))

-- one of them can't
abbrev pub AreUnwritten : Formats → List Mount → List FileToWrite → List (ℕ × KeyMap) → PrepareFault → Type 0
AreUnwritten formats mounts files parts why =
    BreaksAmong formats mounts files why
    ⊎ (AllByRecursion (IsStorableFile formats mounts) files × Tells mounts (option_or (first_some (long_at mounts) (over (written_of formats mounts) files)) (first_some (table_at mounts) parts)) why)

-- ---- the set

-- a set whose involved mounts were fetched, and what it wants for the touched ones
pub record IsAsked (store : Store) (mounts : List ℕ) (keys : KeyMap) (parts : List (ℕ × KeyMap)) (set : model.Prepared) : Type 0 where
  pub fetched : not_fetched set ≡ None
  pub involved : set.involved ≡ mounts
  pub keys_are : set.keys ≡ keys
  pub parts_are : parts ≡ over (λ m. (m, wanted_in store set m)) set.touched

-- it passes, and these are the texts
pub record HasTexts (formats : Formats) (store : Store) (set : model.Prepared) (texts : List FileText) : Type 0 where
  pub early : IsEarly formats store set None
  pub are : texts ≡ as_entry (texts_at formats store set.keys set.touched)
