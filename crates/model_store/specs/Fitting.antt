-- Which keys the file of a mount can take, and why it can't take others. (This project's own.)
use Rattle.std.specs.Prelude.{◌≡◌, ℕ, nat_lt, if◌then◌else◌, List, length, slice_get, Option, Some, None, option_and_then, Result, Ok, Err}
use Rattle.backend_files.specs.WholeFile.{longest_file}
use Rattle.general_words.specs.Saturated.{saturated}
use Rattle.key_name.specs.Joining.{joined}
use Rattle.model_names.specs.Name.{Name}
use Rattle.model_names.specs.Order.{name_eq}
use Rattle.model_maps.specs.KeyMap.{KeyMap, weight, heaviest_map}
use Rattle.mount_table.specs.Points.{own_point}
use Rattle.mount_table.specs.Table.{table_of}
use Rattle.mount_table.specs.declared.faults.TableFault.{TableFault}
use Rattle.mount_table.specs.declared.mounts.Mount.{Mount}
use Rattle.model_store.specs.Store.{Store, Formats, contents}

-- what is refused before the history is asked
pub data Early : Type 0 where
  NotFetched : ℕ → Early
  ValueTooLong : Name → ℕ → Early
  TooHeavy : ℕ → ℕ → Early
  NotStorable : ℕ → Name → Early
  TooLong : ℕ → ℕ → Early
  BadTable : TableFault → Early

-- something is told of the mount of a number, where there is one
abbrev pub at_mount : Store → (ℕ → Mount → Option Early) → ℕ → Option Early
at_mount store told m = option_and_then (told m) (slice_get store.mounts m)

-- the file is to hold keys that are too heavy: the mount and their weight
abbrev pub heavy_contents : ℕ → KeyMap → Option Early
heavy_contents m keys = if nat_lt heaviest_map (weight keys) then Some (TooHeavy m (saturated (weight keys))) else None

abbrev pub too_heavy : Store → (ℕ → KeyMap) → ℕ → Option Early
too_heavy store wanted = at_mount store (λ m mount. heavy_contents m (contents store m mount (wanted m)))

-- the text of the file is too long: the mount and the text's length
abbrev pub long_text : ℕ → List ℕ → Option Early
long_text m bytes = if nat_lt longest_file (length bytes) then Some (TooLong m (length bytes)) else None

abbrev pub too_long : Formats → Store → (ℕ → KeyMap) → ℕ → Option Early
too_long formats store wanted =
    at_mount store (λ m mount. long_text m (formats.text mount.kind (contents store m mount (wanted m))))

-- the mount is that of the table, and the keys wanted for it make no table
abbrev pub fault_of_table : {A : Type 0} → Result A TableFault → Option Early
fault_of_table (Ok mounts) = None
fault_of_table (Err fault) = Some (BadTable fault)

abbrev pub bad_table : Store → (ℕ → KeyMap) → ℕ → Option Early
bad_table store wanted =
    at_mount store (λ m mount. if name_eq mount.at own_point then fault_of_table (table_of (wanted m)) else None)

-- the format can hold what the file of the mount is to hold
abbrev pub IsStorableAt : Formats → Store → (ℕ → KeyMap) → ℕ → Type 0
IsStorableAt formats store wanted m =
    (mount : Mount) → slice_get store.mounts m ≡ Some mount → formats.IsStorable mount.kind (contents store m mount (wanted m))

-- it can't: the mount, and the whole name of the key at which it breaks
pub record BreaksAtMount (formats : Formats) (store : Store) (wanted : ℕ → KeyMap) (m : ℕ) (name : Name) : Type 0 where
  pub mount : Mount
  pub there : slice_get store.mounts m ≡ Some mount
  pub key : Name
  pub breaks : formats.BreaksAt mount.kind (contents store m mount (wanted m)) key
  pub is : name ≡ joined mount.at key

-- the file of a mount takes the keys that are wanted for it
pub record Fits (formats : Formats) (store : Store) (wanted : ℕ → KeyMap) (m : ℕ) : Type 0 where
  pub light : too_heavy store wanted m ≡ None
  pub storable : IsStorableAt formats store wanted m
  pub short : too_long formats store wanted m ≡ None
  pub table : bad_table store wanted m ≡ None
