use Rattle.std.proofs.Common.{arith}
use Rattle.json_storage.proofs.ObjectLemmas.{part-there, part-nowhere, none-behind}
use Rattle.json_storage.proofs.objects.part_between.Goals as goal

pub returns-then-end-from-clause-parts : goal.returns-then-end-from-clause-parts
returns-then-end-from-clause-parts c =
    none-behind c.args.name.now.parts c.args.end c.args.from (omega (arith, c.if-end-from.true))

pub returns-in-Some-clause-parts : goal.returns-in-Some-clause-parts
returns-in-Some-clause-parts c =
    part-there c.args.name.now.parts c.args.from c.args.end c.in-Some.part.now (omega (arith, c.if-end-from.false)) c.in-Some.ensures

pub returns-in-None-clause-parts : goal.returns-in-None-clause-parts
returns-in-None-clause-parts c =
    part-nowhere c.args.name.now.parts c.args.from c.args.end (omega (arith, c.if-end-from.false)) c.in-None.ensures
