-- All rooms so far are empty.
use Rattle.std.proofs.Common.{◌≡◌, ℕ, ◌<◌, length, []}
use Rattle.std.specs.Prelude.{slice_index_or}
use Rattle.std.specs.declared.alloc.Global.{Global}
use Rattle.std.specs.declared.vec.Vec.{Vec}
use Rattle.batch_script.specs.declared.steps.Step.{Step}
use Rattle.batch_script.proofs.progress.empty_rooms.Given as goal

abbrev pub invariant-loop-made : goal.invariant-loop-made
invariant-loop-made l = record {
  many : length l.rooms.items ≡ l._made;
  empty : (i : ℕ) (d : Vec Step Global) → i < l._made → (slice_index_or l.rooms.items i d).items ≡ [];
}
