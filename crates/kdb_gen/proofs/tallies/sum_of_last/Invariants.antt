-- The sum so far and the rounds that are left come to the whole sum.
use Rattle.std.proofs.Common.{◌≡◌, ◌≤◌, ◌+◌, ◌*◌, sum}
use Rattle.kdb_gen.specs.Generated.{most_rounds}
use Rattle.kdb_gen.specs.Tallies.{last_rounds}
use Rattle.kdb_gen.proofs.RangeLemmas.{up_to}
use Rattle.kdb_gen.proofs.tallies.sum_of_last.Given as goal

abbrev pub invariant-loop-round : goal.invariant-loop-round
invariant-loop-round l = record {
  told : l.sum + sum (up_to l.round l.rounds) ≡ sum (last_rounds l.rounds);
  small : l.sum ≤ most_rounds * l.round;
}
