-- The first handle has seen what those so far have seen.
use Rattle.std.proofs.Common.{◌≡◌, ℕ, ◌<◌, get_or}
use mathlib.Core.List.{IsPrefix}
use Rattle.batch_run.specs.Going.{Meets}
use Rattle.batch_run.specs.declared.workers.Worker.{Worker}
use Rattle.kdb_handle.specs.Views.{lock_of, plan_of}
use Rattle.batch_run.proofs.meetings.gather.Given as goal

abbrev pub invariant-loop-other : goal.invariant-loop-other
invariant-loop-other g l = record {
  first : Meets (lock_of l.store) (plan_of l.store) l.initial.first l.first;
  others : l.others ≡ l.initial.others;
  all : (i : ℕ) (d : Worker) → i < l.other-index → IsPrefix (get_or l.initial.others i d).session.handle.seen l.first.session.handle.seen;
}
