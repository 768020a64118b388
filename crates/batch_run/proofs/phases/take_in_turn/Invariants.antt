-- The sessions so far have taken their steps.
use Rattle.std.proofs.Common.{◌≡◌, ℕ, ◌<◌, ◌≤◌, get_or}
use Rattle.batch_run.specs.Going.{Works}
use Rattle.batch_run.specs.declared.workers.Worker.{Worker}
use Rattle.kdb_handle.specs.Views.{lock_of, plan_of}
use Rattle.model_batch.specs.Scripts.{steps_in}
use Rattle.batch_run.proofs.phases.take_in_turn.Given as goal
use Rattle.model_store.specs.Store.{formats_of}

abbrev pub invariant-loop-worker : goal.invariant-loop-worker
invariant-loop-worker g l = record {
  done : (i : ℕ) (d : Worker) → i < l.worker-index
      → Works (formats_of g.F.Formats) (lock_of l.store) (plan_of l.store) (steps_in l.phase (get_or l.initial.workers i d).session.number) (get_or l.initial.workers i d) (get_or l.workers i d);
  left : (i : ℕ) (d : Worker) → l.worker-index ≤ i → get_or l.workers i d ≡ get_or l.initial.workers i d;
}
