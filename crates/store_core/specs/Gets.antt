-- What a get answers, as the definitions of a store have it. (This project's own.)
use Rattle.std.specs.Prelude.{◌≡◌, ◌⊎◌, ℕ, Bool, false, List, slice_get, Option, Some, option_and_then, Result, Ok, Err}
use Rattle.std.specs.Option.{option_map_or}
use Rattle.model_names.specs.Name.{Name}
use Rattle.model_store.specs.Cores.{Made}
use Rattle.model_store.specs.Events as event
use Rattle.model_store.specs.Events.{Answer, Get, put}
use Rattle.model_store.specs.Records as model
use Rattle.model_store.specs.Sets as sets
use Rattle.model_store.specs.Store.{Store, Formats, is_bad}
use Rattle.mounted_files.specs.Faults.{fault_in}
use Rattle.mounted_files.specs.declared.files.MountedFile.{MountedFile}
use Rattle.mounted_files.specs.declared.refusals.GetFault.{GetFault}
use Rattle.mounted_files.specs.declared.refusals.GetFault.TheVariants as fault
use Rattle.store_core.specs.Cores.{core_with}
use Rattle.store_core.specs.declared.cores.Core.{Core}
use Rattle.store_core.specs.declared.getting.Got.{Got}
use Rattle.store_verdict.specs.RecordView.{handle_of, record_of}
use Rattle.store_verdict.specs.declared.records.Record.{Record}

-- a mount by its number is bad, and why
abbrev pub is_bad_mount : List MountedFile → ℕ → Bool
is_bad_mount files m = option_map_or (λ file. is_bad file.state) (slice_get files m) false

abbrev pub fault_at : List MountedFile → ℕ → Option GetFault
fault_at files m = option_and_then fault_in (slice_get files m)

-- the answer to a get; a bad mount is told by its mountpoint, with why its file isn't used
abbrev pub IsGot : List MountedFile → Result Got GetFault → Answer → Type 0
IsGot files (Ok got) answer = answer ≡ event.Got got.front got.keys
IsGot files (Err why) answer =
    ((why ≡ fault.Memory) × (answer ≡ event.Memory)) ⊎ ((m : ℕ) × (fault_at files m ≡ Some why) × (answer ≡ event.Bad m))

-- a handle got a parent as the definitions say, with this answer
pub record HasGot (formats : Formats) (store : Store) (files : List MountedFile) {D P : Type 0} (core : Core D P) (records : ℕ → model.Record) (prepared : ℕ → Option sets.Prepared) (parent : Name) (old new : Record) (result : Result Got GetFault) : Type 0 where
  pub answer : Answer
  pub is_answer : IsGot files result answer
  pub made : Made formats store (core_with core records prepared) (Get (handle_of old) parent) answer (core_with core (put (handle_of old) (record_of new) records) prepared)
