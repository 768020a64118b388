use Rattle.std.proofs.Common.{sym, ◌∙◌}
use borrow.Author.Tests.{eqb-true}
use Rattle.model_specified.specs.Specified.{specified_value}
use Rattle.plugin_chain.proofs.BareLemmas.{adds_none}
use Rattle.plugin_chain.proofs.checking.check_once.Goals as goal

pub returns-then-is_empty-clause-ok : goal.returns-then-is_empty-clause-ok
returns-then-is_empty-clause-ok g c =
    adds_none (specified_value c.args.meta.now c.args.value.now) c.args.meta.now (eqb-true _ _ (sym c.is_empty.ensures.empty ∙ c.if-is_empty.true)) _ c.args.name.now c.args.list.now.items
