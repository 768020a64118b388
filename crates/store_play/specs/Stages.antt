-- What is kept between two events, in the words of the definitions. (This project's own.)
use Rattle.std.specs.Prelude.{ℕ, List, length, Option, None}
use Rattle.model_crashes.specs.Runs.{Run}
use Rattle.model_store.specs.Cores as cores
use Rattle.model_store.specs.Events.{put}
use Rattle.model_store.specs.Events as event
use Rattle.model_store.specs.Sets as sets
use Rattle.store_core.specs.Cores.{core_with}
use Rattle.store_core.specs.declared.cores.Core.{Core}
use Rattle.store_play.specs.Handles.{records_of, held_in}
use Rattle.store_verdict.specs.declared.prepared.Prepared.{Prepared}
use Rattle.store_verdict.specs.declared.records.Record.{Record}

-- the core, the run on the disk, the sets that are held until they are committed, and how many handles and places for
-- sets there are
pub record Stage : Type 0 where
  pub core : cores.Core
  pub run : Run
  pub held : ℕ → Option sets.Prepared
  pub handles : ℕ
  pub places : ℕ

abbrev pub stage_of : {D P : Type 0} → Core D P → List Record → List (Option Prepared) → (ℕ → Option sets.Prepared) → Run → Stage
stage_of core records places known run =
    record {
      core = core_with core (records_of records) known;
      run = run;
      held = held_in places;
      handles = length records;
      places = length places;
    }

-- the set that an event is about
abbrev pub set_asked : (ℕ → Option sets.Prepared) → event.Event → Option sets.Prepared
set_asked sets (event.Commit r p) = sets p
set_asked sets asked = None

-- what is held after a call: a set that was prepared, in place of one of its number; and no set that was committed,
-- whatever the answer
abbrev pub held_after : event.Event → event.Answer → (ℕ → Option sets.Prepared) → (ℕ → Option sets.Prepared) → ℕ → Option sets.Prepared
held_after (event.Prepare r p parent keys) event.Ready known held = put p (known p) held
held_after (event.Commit r p) answer known held = put p None held
held_after asked answer known held = held
