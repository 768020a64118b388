use Rattle.std.proofs.Common.{sym, ◌∙◌}
use Rattle.set_split.proofs.OwningLemmas.{beside}
use Rattle.set_split.proofs.owning.owns.Goals as goal

pub returns-then-not-is_below_or_same : goal.returns-then-not-is_below_or_same
returns-then-not-is_below_or_same c =
    sym (beside c.args.points.now c.requires.order c.args.i c.index-points-i.result c.requires.within c.index-points-i.is c.args.name.now (sym c.is_below_or_same.ensures.test ∙ c.if-not-is_below_or_same.true))
