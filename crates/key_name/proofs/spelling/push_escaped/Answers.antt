use Rattle.std.proofs.Common.{arith, rules}
use Rattle.key_name.proofs.MeasureLemmas.{escaped_as_it_is}
use Rattle.key_name.proofs.spelling.push_escaped.Goals as goal

pub returns-then-escapes-eq0 : goal.returns-then-escapes-eq0
returns-then-escapes-eq0 c =
    let count = c.escapes.ensures.count in
    rw (escaped_as_it_is c.args.part.now (omega (arith, count, c.if-escapes-eq0.true))) (search rules)
