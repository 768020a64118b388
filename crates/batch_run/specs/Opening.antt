-- Handles that are opened for the sessions of a script. (This project's own.)
use Rattle.std.specs.Prelude.{◌≡◌, ℕ, ◌+◌, ◌≤◌, List, [], length}
use Rattle.std.specs.Vec.{vec_capacity}
use Rattle.batch_run.specs.Closes.{AreFresh}
use Rattle.batch_script.specs.declared.steps.Script.{Script}
use Rattle.batch_run.specs.declared.seating.Places.{Places}
use Rattle.kdb_handle.specs.Handles.{HandleValue}
use Rattle.kdb_handle.specs.Stores.{AreFree}
use Rattle.kdb_handle.specs.Story.{Told}
use Rattle.model_batch.specs.Scripts.{procs_of, sessions_of}
use Rattle.seat_lock.specs.Known.{Known, Place}
use Rattle.store_core.specs.declared.cores.Plan.{Plan}

-- the numbers of a script's sessions, and empty places for so many handles
pub record HasPlaces (script : Script) (places : Places) : Type 0 where
  pub numbers : places.numbers.items ≡ sessions_of script
  pub none : places.handles.items ≡ []
  pub wide : length (sessions_of script) ≤ vec_capacity places.handles

-- the handles of the first sessions of a script were just opened, and each other seat is free but the flusher's
pub record AreOpened {F : Type 0} (lock : Place Told) (plan : Plan F) (script : Script) (handles : List HandleValue) (seats : List (Known Told)) (room : ℕ) : Type 0 where
  pub fresh : AreFresh lock plan (procs_of script) handles
  pub free : AreFree lock seats room
  pub all : length handles + length seats + 1 ≡ lock.seats
