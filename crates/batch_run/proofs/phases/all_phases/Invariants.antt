-- All stand where the phases so far have brought them, and the rooms of the others are as they were.
use Rattle.std.proofs.Common.{◌≡◌, ℕ, ◌<◌, ◌≤◌, [], length, get_or, take, map as over}
use Rattle.batch_run.specs.Rooms.{row_in}
use Rattle.batch_run.specs.Stands.{Stand, rows_of}
use Rattle.batch_run.specs.Workers.{IsResting, number_in}
use Rattle.batch_run.specs.declared.rooms.PhaseRooms.{PhaseRooms}
use Rattle.batch_run.specs.declared.workers.Worker.{Worker}
use Rattle.kdb_handle.specs.Stores.{IsFlusher}
use Rattle.kdb_handle.specs.Views.{lock_of, plan_of}
use Rattle.model_maps.specs.KeyMap.{KeyMap}
use Rattle.batch_run.proofs.phases.all_phases.Given as goal
use Rattle.model_store.specs.Store.{formats_of}

abbrev pub invariant-loop-place : goal.invariant-loop-place
invariant-loop-place g l = record {
  stand : (procs : ℕ → KeyMap)
      → Stand (formats_of g.F.Formats) (lock_of l.store) (plan_of l.store) procs [] [] l.initial.workers
      → Stand (formats_of g.F.Formats) (lock_of l.store) (plan_of l.store) procs (rows_of (over number_in l.initial.workers) (take l.place l.phases)) (over row_in (take l.place l.rooms)) l.workers;
  flusher : IsFlusher (lock_of l.store) l.flusher;
  numbers : over number_in l.workers ≡ over number_in l.initial.workers;
  resting : (i : ℕ) (d : Worker) → i < length l.workers → IsResting (lock_of l.store) (plan_of l.store) (get_or l.workers i d);
  left : (q : ℕ) (e : PhaseRooms) → l.place ≤ q → get_or l.rooms q e ≡ get_or l.initial.rooms q e;
  shown : (q : ℕ) (e : PhaseRooms) → q < l.place → (get_or l.rooms q e).shown ≡ (get_or l.initial.rooms q e).shown;
}
