-- What a preparing makes or refuses, as the definitions have it.
use Rattle.std.specs.Prelude.{◌≡◌, ℕ, List, map as over, slice_get, Option, Some, None}
use Rattle.std.specs.Option.{option_map}
use Rattle.model_files.specs.Files.{HaveOwnFiles}
use Rattle.model_files.specs.Texts.{as_entry, texts_at}
use Rattle.model_maps.specs.KeyMap.{KeyMap}
use Rattle.model_names.specs.Name.{Name}
use Rattle.model_store.specs.Fitting.{Early}
use Rattle.model_store.specs.Fitting as early
use Rattle.model_store.specs.Records.{Record}
use Rattle.model_store.specs.Sets as model
use Rattle.model_store.specs.Sets.{prepared, wants}
use Rattle.model_store.specs.Store.{Store, Formats, points_of}
use Rattle.model_store.specs.Verdicts.{IsEarly}
use Rattle.mount_table.specs.declared.mounts.Mount.{Mount}
use Rattle.set_split.specs.Seen.{numbered}
use Rattle.store_verdict.specs.PreparedView.{prepared_of}
use Rattle.store_verdict.specs.declared.faults.PrepareFault.{PrepareFault}
use Rattle.store_verdict.specs.declared.faults.PrepareFault.TheVariants as fault
use Rattle.store_verdict.specs.declared.prepared.Prepared.{Prepared}

-- a fault tells a mount by its name
abbrev pub at_name : List Mount → (Name → PrepareFault) → ℕ → Option PrepareFault
at_name mounts told m = option_map (λ mount. told mount.at) (slice_get mounts m)

abbrev pub fault_of : List Mount → Early → Option PrepareFault
fault_of mounts (early.NotFetched m) = at_name mounts fault.NotFetched m
fault_of mounts (early.ValueTooLong key bytes) = Some (fault.ValueTooLong key bytes)
fault_of mounts (early.TooHeavy m weight) = at_name mounts (λ at. fault.FileTooLarge at weight) m
fault_of mounts (early.NotStorable m key) = at_name mounts (λ at. fault.NotStorable at key) m
fault_of mounts (early.TooLong m bytes) = at_name mounts (λ at. fault.FileTooLarge at bytes) m
fault_of mounts (early.BadTable why) = Some (fault.BadTable why)

-- the set is that of the definitions, and passed; with it come what is wanted for each touched mount, and the texts
pub record IsMade (formats : Formats) (store : Store) (handle : ℕ) (rec : Record) (parent : Name) (keys : KeyMap) (set : Prepared) : Type 0 where
  pub is : prepared_of set ≡ prepared (points_of store) handle rec parent keys
  pub early : IsEarly formats store (prepared_of set) None
  pub wanted : numbered set.wanted ≡ over (λ m. (m, wants (points_of store) keys m)) set.touched
  pub texts : HaveOwnFiles store.mounts → set.texts ≡ as_entry (texts_at formats store keys set.touched)

-- a set is refused, and this is the fault
pub record IsRefusedSet (formats : Formats) (store : Store) (set : model.Prepared) (why : PrepareFault) : Type 0 where
  pub early : Early
  pub refused : IsEarly formats store set (Some early)
  pub is : fault_of store.mounts early ≡ Some why

-- that of the definitions is
abbrev pub IsRefused : Formats → Store → ℕ → Record → Name → KeyMap → PrepareFault → Type 0
IsRefused formats store handle rec parent keys why =
    IsRefusedSet formats store (prepared (points_of store) handle rec parent keys) why
