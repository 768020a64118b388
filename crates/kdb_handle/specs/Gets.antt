-- What a handle's get gives, by the history that it has then seen. (This project's own.)
use Rattle.std.specs.Prelude.{◌≡◌, ◌⊎◌, ℕ, List, length, Some, None, Result, Ok, Err}
use Rattle.model_history.specs.History.{Commit, replay}
use Rattle.model_names.specs.Name.{Name}
use Rattle.model_store.specs.Cores.{keeping}
use Rattle.model_store.specs.Events as event
use Rattle.model_store.specs.Events.{first_bad}
use Rattle.model_store.specs.Records as model
use Rattle.model_store.specs.Sets.{wants}
use Rattle.model_store.specs.Store.{Store, points_of}
use Rattle.mounted_files.specs.declared.files.MountedFile.{MountedFile}
use Rattle.mounted_files.specs.declared.refusals.GetFault.{GetFault}
use Rattle.mounted_files.specs.declared.refusals.GetFault.TheVariants as fault
use Rattle.set_split.specs.Involved.{involved_in}
use Rattle.store_core.specs.Gets.{fault_at}
use Rattle.store_core.specs.declared.getting.Got.{Got}

-- the keys of a parent after a history, with its length; the record then keeps them for each involved mount
pub record Gives (store : Store) (history : List Commit) (number : ℕ) (parent : Name) (old new : model.Record) (got : Got) : Type 0 where
  pub good : first_bad store parent ≡ None
  pub front : got.front ≡ length history
  pub keys : got.keys ≡ event.got store (replay store.start history) number parent
  pub kept : new
      ≡ keeping (involved_in (points_of store) parent) (length history) (wants (points_of store) (replay store.start history)) old

-- the first involved mount that is bad is told with its cause; or there was no memory
abbrev pub IsRefused : Store → List MountedFile → Name → GetFault → Type 0
IsRefused store files parent why =
    (why ≡ fault.Memory) ⊎ ((m : ℕ) × (fault_at files m ≡ Some why) × (first_bad store parent ≡ Some m))

-- the answer to a get of a handle of some number; a refused one leaves the record
abbrev pub IsGotAt : Store → List MountedFile → List Commit → ℕ → Name → model.Record → model.Record → Result Got GetFault → Type 0
IsGotAt store files history number parent old new (Ok got) = Gives store history number parent old new got
IsGotAt store files history number parent old new (Err why) = IsRefused store files parent why × (new ≡ old)
