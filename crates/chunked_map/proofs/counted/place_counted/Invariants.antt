-- The keys before the lower bound are before the key, and those from the upper bound on behind it; each comparison
-- halves what is left.
use Rattle.std.proofs.Common.{◌≡◌, ℕ, ◌-◌, ◌+◌, ◌*◌, ◌^◌, ◌<◌, ◌≤◌, length, get_or}
use Rattle.std.specs.declared.cmp.Ordering.TheVariants.{Less, Greater}
use Rattle.chunked_map.proofs.counted.place_counted.Given as goal

abbrev pub invariant-loop-low : goal.invariant-loop-low
invariant-loop-low g l = record {
  order : l.low ≤ l.high;
  within : l.high < length l.entries;
  before : (k : ℕ) (d : g.row.K.Denot × g.row.V.Denot) → k < l.low → g.K.Ord.cmp (get_or l.entries k d).0 l.key ≡ Less;
  after : (k : ℕ) (d : g.row.K.Denot × g.row.V.Denot) → l.high ≤ k → k < length l.entries → g.K.Ord.cmp (get_or l.entries k d).0 l.key ≡ Greater;
  since : l.fn.steps ≤ l.steps;
  left : l.low < l.high → 2 ^ (l.steps - l.fn.steps) * (l.high - l.low) ≤ length l.entries - 1;
  cost : 2 ^ (l.steps - l.fn.steps) ≤ 2 * (length l.entries - 1) + 1;
}

abbrev pub decreases-loop-low : goal.decreases-loop-low
decreases-loop-low g l = l.high - l.low
