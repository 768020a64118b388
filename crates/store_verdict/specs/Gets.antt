-- What a get gives a handle, and what its record keeps then, as the definitions have it.
use Rattle.std.specs.Prelude.{◌≡◌, ℕ, Some, None}
use Rattle.model_maps.specs.KeyMap.{KeyMap}
use Rattle.model_names.specs.Name.{Name}
use Rattle.model_store.specs.Cores.{keeping}
use Rattle.model_store.specs.Events.{first_bad, got}
use Rattle.model_store.specs.Sets.{wants}
use Rattle.model_store.specs.Store.{Store, points_of}
use Rattle.set_split.specs.Involved.{involved_in}
use Rattle.store_verdict.specs.RecordView.{handle_of, record_of}
use Rattle.store_verdict.specs.declared.getting.Getting.{Getting}
use Rattle.store_verdict.specs.declared.getting.Getting.TheVariants.{Keys, Bad}
use Rattle.store_verdict.specs.declared.records.Record.{Record}

-- no involved mount is bad, the keys are those of a get, and the record keeps them of each involved mount
pub record Gets (store : Store) (keys : KeyMap) (front : ℕ) (parent : Name) (old new : Record) (found : KeyMap) : Type 0 where
  pub good : first_bad store parent ≡ None
  pub keys_are : found ≡ got store keys (handle_of old) parent
  pub record_is : record_of new
      ≡ keeping (involved_in (points_of store) parent) front (wants (points_of store) keys) (record_of old)

-- the lowest bad mount, and the record stays
pub record IsBad (store : Store) (parent : Name) (old new : Record) (mount : ℕ) : Type 0 where
  pub bad : first_bad store parent ≡ Some mount
  pub same : record_of new ≡ record_of old

abbrev pub IsGetting : Store → KeyMap → ℕ → Name → Record → Record → Getting → Type 0
IsGetting store keys front parent old new (Keys found) = Gets store keys front parent old new found
IsGetting store keys front parent old new (Bad mount) = IsBad store parent old new mount
