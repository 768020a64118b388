-- What a store with one owner promises over every list of events. (This project's own.)
use Rattle.std.specs.Prelude.{◌≡◌, ℕ, ◌≤◌, List, [], ◌∷◌, length, take, Option, Some, None}
use Rattle.model_history.specs.History as past
use Rattle.model_history.specs.History.{replay}
use Rattle.model_store.specs.Store.{Store, Formats}
use Rattle.model_store.specs.Records.{IsRecord}
use Rattle.model_store.specs.Sets.{Prepared, set_of}
use Rattle.model_store.specs.Verdicts.{IsEarly}
use Rattle.model_store.specs.Legal.{IsLegal}
use Rattle.model_store.specs.Sound.{IsSound}
use Rattle.model_store.specs.Events.{Event, Answer}
use Rattle.model_store.specs.Worlds.{World, Asked, first_world, Meant}
use Rattle.model_store.specs.Cores.{Core}

-- events with their answers lead from one state to another, step by step
abbrev pub Runs : {S : Type 0} → (S → Event → Answer → S → Type 0) → S → List (Event × Answer) → S → Type 0
Runs Step first [] last = last ≡ first
Runs {S} Step first (call ∷ calls) last = (mid : S) × Step first call.0 call.1 mid × Runs Step mid calls last

-- a prepared set is what the definitions make of what was asked, by the history that was found then, and it passed
pub record IsAsked (formats : Formats) (store : Store) (history : List past.Commit) (asked : Asked) (set : Prepared) : Type 0 where
  pub found : asked.found ≤ length history
  pub within : (m front : ℕ) → asked.fronts m ≡ Some front → front ≤ asked.found
  pub is : set ≡ set_of store (take asked.found history) asked.handle asked.fronts asked.parent asked.keys
  pub passed : IsEarly formats store set None

abbrev pub IsSet : Formats → Store → List past.Commit → Option Asked → Option Prepared → Type 0
IsSet formats store history None None = Unit {0}
IsSet formats store history (Some asked) (Some set) = IsAsked formats store history asked set
IsSet formats store history asked set = ⊥

-- a core stands for a world of a sound store: one history, which is legal; the map after it; each record and each set
-- is that of the definitions
pub record Stands (formats : Formats) (store : Store) (world : World) (core : Core) : Type 0 where
  pub sound : IsSound formats store
  pub history : core.history ≡ world.history
  pub keys : core.keys ≡ replay store.start world.history
  pub legal : IsLegal formats store world.history
  pub records : (r : ℕ) → IsRecord store world.history r (world.fronts r) (core.records r)
  pub sets : (p : ℕ) → IsSet formats store world.history (world.asked p) (core.sets p)

-- the same events with the same answers lead from the first world to one for which the core stands
pub record IsOneOwner (formats : Formats) (store : Store) (calls : List (Event × Answer)) (core : Core) : Type 0 where
  pub world : World
  pub meant : Runs (Meant formats store) first_world calls world
  pub stands : Stands formats store world core
