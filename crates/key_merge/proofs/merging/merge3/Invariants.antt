-- The walk keeps what stands behind it, and has fewer keys ahead with each name.
use Rattle.std.proofs.Common.{◌≡◌, ◌+◌, length}
use Rattle.key_merge.proofs.StandsLemmas.{Stands}
use Rattle.key_merge.proofs.merging.merge3.Given as goal

abbrev pub invariant-loop-name : goal.invariant-loop-name
invariant-loop-name l =
    (l.merging.strategy ≡ l.fn.strategy) × Stands l.fn.strategy l.fn.base l.fn.our l.fn.their l.walk.base l.walk.our l.walk.their l.merging.keys l.merging.conflicts.items

abbrev pub decreases-loop-name : goal.decreases-loop-name
decreases-loop-name l = length l.walk.base + length l.walk.our + length l.walk.their
