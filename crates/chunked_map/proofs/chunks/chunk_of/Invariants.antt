-- The chunks before the lower bound hold smaller keys, and those behind the one at the upper bound larger ones.
use Rattle.std.proofs.Common.{◌-◌, ◌≤◌, T, length, take, drop, suc}
use Rattle.std.specs.FinMap.Entries.{below_all}
use Rattle.chunked_map.specs.Chunks.{joined, all_before}
use Rattle.chunked_map.proofs.chunks.chunk_of.Given as goal

abbrev pub invariant-loop-low : goal.invariant-loop-low
invariant-loop-low g l =
    (l.low ≤ l.high)
    × (l.high ≤ length l.chunks)
    × T (all_before g.K.Ord.cmp l.key (joined (take l.low l.chunks)))
    × T (below_all g.K.Ord.cmp l.key (joined (drop (suc l.high) l.chunks)))

abbrev pub decreases-loop-low : goal.decreases-loop-low
decreases-loop-low g l = l.high - l.low
