-- What was moved and what is still to come are the range, and there is room for it.
use Rattle.std.proofs.Common.{◌≡◌, ◌++◌, vec_capacity}
use Rattle.std.specs.Vec.Iter.{drain_items, DrainKeeps}
use Rattle.chunked_map.proofs.ranges.move_out.Given as goal

abbrev pub invariant-loop-item : goal.invariant-loop-item
invariant-loop-item g l = (goal.iterator-loop-item g).can_next l.item-iterator
    × (goal.iterator-loop-item g).is_finite l.item-iterator
    × DrainKeeps l.initial.item-iterator l.item-iterator
    × (l.taken.items ++ drain_items l.item-iterator ≡ drain_items l.initial.item-iterator)
    × (vec_capacity l.taken ≡ vec_capacity l.initial.taken)
