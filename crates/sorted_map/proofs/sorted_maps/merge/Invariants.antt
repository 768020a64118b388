-- What was moved and what the two lists still give are the list of both, and there is room for it.
use Rattle.std.proofs.Common.{◌≡◌, ◌+◌, ◌≤◌, ◌++◌, T, length, vec_capacity}
use Rattle.std.specs.FinMap.{is_sorted}
use Rattle.sorted_map.specs.Merge.{put_all}
use Rattle.sorted_map.proofs.sorted_maps.merge.Given as goal

abbrev pub invariant-loop-entry : goal.invariant-loop-entry
invariant-loop-entry g l =
    (put_all g.K.Ord.cmp l.fn.theirs.items l.fn.ours.items ≡ l.merged.items ++ put_all g.K.Ord.cmp l.theirs.items l.ours.items)
    × T (is_sorted g.K.Ord.cmp l.theirs.items)
    × (length l.merged.items + (length l.ours.items + length l.theirs.items) ≤ vec_capacity l.merged)

abbrev pub decreases-loop-entry : goal.decreases-loop-entry
decreases-loop-entry g l = length l.ours.items + length l.theirs.items
