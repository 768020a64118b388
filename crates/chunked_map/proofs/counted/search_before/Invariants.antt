-- The key is behind the chunks before the lower bound, and before the last key of the one at the upper bound; each
-- comparison halves what is left.
use Rattle.std.proofs.Common.{◌-◌, ◌+◌, ◌*◌, ◌^◌, ◌<◌, ◌≤◌, [], T, length, take, get_or}
use Rattle.chunked_map.specs.Chunks.{joined, all_before, IsBeforeLast}
use Rattle.chunked_map.proofs.counted.search_before.Given as goal

abbrev pub invariant-loop-low : goal.invariant-loop-low
invariant-loop-low g l = record {
  order : l.low ≤ l.high;
  within : l.high < length l.chunks;
  before : T (all_before g.K.Ord.cmp l.key (joined (take l.low l.chunks)));
  late : IsBeforeLast g.K.Ord.cmp l.key (get_or l.chunks l.high []);
  since : l.fn.steps ≤ l.steps;
  left : l.low < l.high → 2 ^ (l.steps - l.fn.steps) * (l.high - l.low) ≤ length l.chunks - 1;
  cost : 2 ^ (l.steps - l.fn.steps) ≤ 2 * (length l.chunks - 1) + 1;
}

abbrev pub decreases-loop-low : goal.decreases-loop-low
decreases-loop-low g l = l.high - l.low
