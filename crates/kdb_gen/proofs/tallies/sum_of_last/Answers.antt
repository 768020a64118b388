-- A round more.
use Rattle.std.proofs.Common.{arith}
use Rattle.kdb_gen.proofs.RangeLemmas.{sum-first}
use Rattle.kdb_gen.proofs.tallies.sum_of_last.Goals as goal

pub loop-round-preserved : goal.loop-round-preserved
loop-round-preserved c =
    let more = sum-first c.loop-round.round c.args.rounds (omega arith) in record {
      told = omega (arith, more, c.loop-round.invariant.told);
      small = omega (arith, c.loop-round.invariant.small);
    }
