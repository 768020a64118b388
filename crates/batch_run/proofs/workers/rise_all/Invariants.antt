-- The handles so far have come back.
use Rattle.std.proofs.Common.{◌≡◌, map as over}
use Rattle.std.specs.Vec.{vec_capacity}
use Rattle.batch_run.specs.Workers.{handle_in}
use Rattle.batch_run.proofs.workers.rise_all.Given as goal

abbrev pub invariant-loop-worker : goal.invariant-loop-worker
invariant-loop-worker l =
    (l.handles.items ≡ over handle_in l.yielded) × (vec_capacity l.handles ≡ vec_capacity l.initial.handles)
