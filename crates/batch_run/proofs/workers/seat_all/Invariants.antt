-- The sessions so far have their handles, and each the number of its place.
use Rattle.std.proofs.Common.{◌≡◌, ℕ, ◌<◌, All, get_or, length, map as over}
use Rattle.std.specs.Vec.{vec_capacity}
use Rattle.batch_run.specs.Workers.{IsSeated, handle_in, number_in}
use Rattle.batch_run.specs.declared.workers.Worker.{Worker}
use Rattle.batch_run.proofs.workers.seat_all.Given as goal

abbrev pub invariant-loop-handle : goal.invariant-loop-handle
invariant-loop-handle l = record {
  handles : over handle_in l.workers.items ≡ l.yielded;
  numbers : (i : ℕ) (d : Worker) → i < length l.workers.items → number_in (get_or l.workers.items i d) ≡ get_or l.numbers i 0;
  seated : All IsSeated l.workers.items;
  room : vec_capacity l.workers ≡ vec_capacity l.initial.workers;
}
