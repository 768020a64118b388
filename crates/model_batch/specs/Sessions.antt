-- What a session of a batch has between its steps. (This project's own.)
use Rattle.std.specs.Prelude.{ℕ, Option, None}
use Rattle.model_maps.specs.KeyMap.{KeyMap, no_keys}
use Rattle.model_names.specs.Name.{Name}
use Rattle.model_store.specs.Records.{Record, no_record}

-- what a session watches: a parent, how many changes it is told of at once, and how many commits it was told of when it
-- last asked
pub record Watching : Type 0 where
  pub parent : Name
  pub room : ℕ
  pub from : ℕ

-- the working set, what its handle's record keeps, how many commits it knows of, and what it watches. It knows of those
-- that its replies told of, and of those that the phases before its present one made
pub record Session : Type 0 where
  pub working : KeyMap
  pub rec : Record
  pub told : ℕ
  pub watching : Option Watching

-- one that has made no step
abbrev pub first_session : Session
first_session = record { working = no_keys; rec = no_record; told = 0; watching = None }
