-- The handles of a store as the definitions have them: a handle's number is the place of its record, and a set's that
-- of the set. (This project's own.)
use Rattle.std.specs.Prelude.{◌≡◌, ℕ, ◌≤◌, List, length, slice_get, Option, Some, None, option_and_then}
use Rattle.std.specs.Option.{option_map, option_map_or, unwrap_or}
use Rattle.kdb_outside.specs.declared.disks.Disk.{Ghosts}
use Rattle.model_crashes.specs.Runs.{Run}
use Rattle.model_maps.specs.KeyMap.{KeyMap, no_keys}
use Rattle.model_names.specs.Name.{Name}
use Rattle.model_store.specs.Records as model
use Rattle.model_store.specs.Sets as sets
use Rattle.model_store.specs.Store.{Store, Formats, store_of}
use Rattle.model_store.specs.Worlds.{World}
use Rattle.mounted_files.specs.declared.files.MountedFile.{MountedFile}
use Rattle.store_core.specs.Cores.{StandsFor}
use Rattle.store_core.specs.declared.cores.Core.{Core}
use Rattle.store_play.specs.declared.handles.Handles.{Handles}
use Rattle.store_verdict.specs.Preparing.{IsMade}
use Rattle.store_verdict.specs.PreparedView.{prepared_of}
use Rattle.store_verdict.specs.RecordView.{handle_of, places_of, proc_of, record_of}
use Rattle.store_verdict.specs.declared.prepared.Prepared.{Prepared}
use Rattle.store_verdict.specs.declared.records.Record.{Record}

-- the records of some handles, and the places of their sets
abbrev pub records_in : Handles → List Record
records_in handles = handles.records.items

abbrev pub places_in : Handles → List (Option Prepared)
places_in handles = handles.places.items

-- what the handle of a number keeps; one that isn't there keeps nothing
abbrev pub records_of : List Record → ℕ → model.Record
records_of records r = option_map_or record_of (slice_get records r) model.no_record

-- the set that is held under a number
abbrev pub held_at : List (Option Prepared) → ℕ → Option Prepared
held_at places p = option_and_then (λ set. set) (slice_get places p)

-- the sets that are held, as the definitions have them
abbrev pub held_in : List (Option Prepared) → ℕ → Option sets.Prepared
held_in places p = option_map prepared_of (held_at places p)

-- the keys in `proc` of the handle of a number
abbrev pub procs_at : List KeyMap → ℕ → KeyMap
procs_at procs r = unwrap_or (slice_get procs r) no_keys

-- a record is that of the handle of a number, with a place for each of so many mounts, and has these keys in `proc`
pub record IsHandle (mounts : ℕ) (procs : ℕ → KeyMap) (r : ℕ) (rec : Record) : Type 0 where
  pub number : handle_of rec ≡ r
  pub places : mounts ≤ places_of rec
  pub proc : procs r ≡ proc_of rec

abbrev pub AreHandlesOf : ℕ → (ℕ → KeyMap) → List Record → Type 0
AreHandlesOf mounts procs records =
    (r : ℕ) (rec : Record) → slice_get records r ≡ Some rec → IsHandle mounts procs r rec

abbrev pub AreHandles : List MountedFile → (ℕ → KeyMap) → List Record → Type 0
AreHandles files procs records = AreHandlesOf (length files) procs records

-- a record whose handle has fetched and committed nothing
abbrev pub IsNew : model.Record → Type 0
IsNew rec = ((m : ℕ) → rec.fetched m ≡ None) × (rec.committed ≡ 0)

-- such are those of all handles, and no set is held
abbrev pub AreNew : List Record → Type 0
AreNew records = (r : ℕ) (rec : Record) → slice_get records r ≡ Some rec → IsNew (record_of rec)

abbrev pub HoldNothing : List (Option Prepared) → Type 0
HoldNothing places = (p : ℕ) → held_at places p ≡ None

-- a set was prepared for a store
pub record WasMade (formats : Formats) (store : Store) (set : Prepared) : Type 0 where
  pub handle : ℕ
  pub before : model.Record
  pub parent : Name
  pub keys : KeyMap
  pub made : IsMade formats store handle before parent keys set

-- a set that is held was prepared for the store, and is the set of its number
pub record IsHeld (formats : Formats) (store : Store) (known : Option sets.Prepared) (set : Prepared) : Type 0 where
  pub is : known ≡ Some (prepared_of set)
  pub was_made : WasMade formats store set

abbrev pub AreHeld : Formats → Store → (ℕ → Option sets.Prepared) → List (Option Prepared) → Type 0
AreHeld formats store known places =
    (p : ℕ) (set : Prepared) → held_at places p ≡ Some set → IsHeld formats store (known p) set

-- a core with the records of some handles, and the sets that were prepared, stands for a world and for a run on the
-- disk
pub record Holds (formats : Formats) {D P : Type 0} (g : Ghosts D) (files : List MountedFile) (procs : ℕ → KeyMap) (opened : D) (core : Core D P) (records : List Record) (places : List (Option Prepared)) (known : ℕ → Option sets.Prepared) (world : World) (run : Run) : Type 0 where
  pub stands : StandsFor formats g (store_of files procs) opened core (records_of records) known world run
  pub handles : AreHandles files procs records
  pub held : AreHeld formats (store_of files procs) known places

-- there are such sets, such a world and such a run
pub record IsHolding (formats : Formats) {D P : Type 0} (g : Ghosts D) (files : List MountedFile) (core : Core D P) (records : List Record) (places : List (Option Prepared)) : Type 0 where
  pub procs : ℕ → KeyMap
  pub opened : D
  pub known : ℕ → Option sets.Prepared
  pub world : World
  pub run : Run
  pub holds : Holds formats g files procs opened core records places known world run
