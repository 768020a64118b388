-- Those so far have seen what the first handle has seen.
use Rattle.std.proofs.Common.{◌≡◌, ℕ, ◌<◌, ◌≤◌, get_or}
use mathlib.Core.List.{IsPrefix}
use Rattle.batch_run.specs.Going.{Meets}
use Rattle.batch_run.specs.declared.workers.Worker.{Worker}
use Rattle.kdb_handle.specs.Views.{lock_of, plan_of}
use Rattle.batch_run.proofs.meetings.spread.Given as goal

abbrev pub invariant-loop-other : goal.invariant-loop-other
invariant-loop-other g l = record {
  first : l.first ≡ l.initial.first;
  met : (i : ℕ) (d : Worker) → i < l.other-index → Meets (lock_of l.store) (plan_of l.store) (get_or l.initial.others i d) (get_or l.others i d);
  all : (i : ℕ) (d : Worker) → i < l.other-index → IsPrefix l.initial.first.session.handle.seen (get_or l.others i d).session.handle.seen;
  left : (i : ℕ) (d : Worker) → l.other-index ≤ i → get_or l.others i d ≡ get_or l.initial.others i d;
}
