-- The last of those in the ring and of those to come are the last of all.
use Rattle.std.proofs.Common.{◌≡◌, ◌≤◌, ◌++◌, length}
use Rattle.std.specs.Vec.Iter.{into_iter_items}
use Rattle.circular_buffer.specs.Buffer.{keep_last}
use Rattle.watch_feed.proofs.rings.keep.Given as goal

abbrev pub invariant-loop-changed : goal.invariant-loop-changed
invariant-loop-changed l = record {
  last : keep_last l.initial.ring.capacity (l.ring.items ++ into_iter_items l.changed-iterator) ≡ keep_last l.initial.ring.capacity (l.initial.ring.items ++ l.fn.told.items);
  capacity : l.ring.capacity ≡ l.initial.ring.capacity;
  within : length l.ring.items ≤ l.initial.ring.capacity;
}
