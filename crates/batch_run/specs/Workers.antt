-- The sessions of a batch at work. (This project's own.)
use Rattle.std.specs.Prelude.{◌≡◌, ℕ, ◌<◌, List, [], length, get_or, None, All}
use Rattle.batch_run.specs.Stepping.{IsReady}
use Rattle.batch_run.specs.declared.workers.Worker.{Worker}
use Rattle.kdb_handle.specs.Handles.{HandleValue}
use Rattle.kdb_handle.specs.Story.{Told}
use Rattle.model_maps.specs.KeyMap.{no_keys}
use Rattle.seat_lock.specs.Known.{Place}
use Rattle.store_core.specs.declared.cores.Plan.{Plan}

abbrev pub handle_in : Worker → HandleValue
handle_in worker = worker.session.handle

abbrev pub number_in : Worker → ℕ
number_in worker = worker.session.number

-- a session that has done nothing: it has no keys, no watch and no replies
pub record IsSeated (worker : Worker) : Type 0 where
  pub keys : worker.session.workspace.keys ≡ no_keys
  pub watch : worker.session.workspace.watch ≡ None
  pub told : worker.told.items ≡ []

-- such sessions, one of each number
pub record AreSeated (numbers : List ℕ) (workers : List Worker) : Type 0 where
  pub named : (i : ℕ) (d : Worker) → i < length workers → number_in (get_or workers i d) ≡ get_or numbers i 0
  pub each : All IsSeated workers

-- a session can take steps with its handle, and waits for its next phase
pub record IsResting {F : Type 0} (lock : Place Told) (plan : Plan F) (worker : Worker) : Type 0 where
  pub ready : IsReady lock plan worker.session.handle worker.session.workspace
  pub none : worker.told.items ≡ []
