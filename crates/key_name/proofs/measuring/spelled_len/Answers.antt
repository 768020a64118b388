use Rattle.std.proofs.Common.{arith}
use Rattle.key_name.proofs.MeasureLemmas.{length-spelled-text}
use Rattle.key_name.proofs.measuring.spelled_len.Goals as goal

pub returns-in_default : goal.returns-in_default
returns-in_default c =
    omega (arith, c.escapes.ensures.count, length-spelled-text c.args.part.now c.in_default.not-empty c.in_default.not-text c.in_default.not-text-2 c.in_default.not-text-3)
