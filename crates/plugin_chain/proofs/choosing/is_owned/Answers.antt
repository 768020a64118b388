use Rattle.std.proofs.Common.{sym, ◌∙◌}
use Rattle.plugin_chain.proofs.OwnerTests.{not_owned}
use Rattle.plugin_chain.proofs.choosing.is_owned.Goals as goal

pub returns-then-not-is_below_one : goal.returns-then-not-is_below_one
returns-then-not-is_below_one c =
    sym (not_owned c.args.points.now c.args.mounts.now c.args.name.now (sym c.is_below_one.ensures ∙ c.if-not-is_below_one.true))
