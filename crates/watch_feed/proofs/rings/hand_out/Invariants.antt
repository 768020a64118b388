-- The changes so far and those in the ring are all, and there is room for those in the ring.
use Rattle.std.proofs.Common.{◌≡◌, ◌+◌, ◌≤◌, ◌++◌, length}
use Rattle.std.specs.Vec.{vec_capacity}
use Rattle.watch_feed.proofs.rings.hand_out.Given as goal

abbrev pub invariant-loop-changed : goal.invariant-loop-changed
invariant-loop-changed l = record {
  all : l.changes.items ++ l.ring.items ≡ l.initial.ring.items;
  capacity : l.ring.capacity ≡ l.initial.ring.capacity;
  room : length l.changes.items + length l.ring.items ≤ vec_capacity l.changes;
}

abbrev pub decreases-loop-changed : goal.decreases-loop-changed
decreases-loop-changed l = length l.ring.items
