-- The entries before the lower bound have smaller keys, and those from the upper bound on have none.
use Rattle.std.proofs.Common.{◌-◌, ◌≤◌, T, length, take, drop}
use Rattle.chunked_map.specs.Chunks.{all_before, none_before}
use Rattle.chunked_map.proofs.chunks.before_here.Given as goal

abbrev pub invariant-loop-low : goal.invariant-loop-low
invariant-loop-low g l =
    (l.low ≤ l.high)
    × (l.high ≤ length l.entries)
    × T (all_before g.K.Ord.cmp l.key (take l.low l.entries))
    × T (none_before g.K.Ord.cmp l.key (drop l.high l.entries))

abbrev pub decreases-loop-low : goal.decreases-loop-low
decreases-loop-low g l = l.high - l.low
