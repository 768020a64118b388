use Rattle.std.proofs.Common.{sym, ap, ◌∙◌}
use Rattle.model_specified.specs.Specified.{with_defaults}
use Rattle.plugin_chain.proofs.SetLemmas.{set_is_specified_ok}
use Rattle.plugin_chain.proofs.specifying.specified.Goals as goal

pub returns : goal.returns
returns c =
    set_is_specified_ok c.args.keys.now c.in_ok-index.index c.in_ok-made.made c.specify_each.result (c.in_ok-index.ensures ∙ c.in_ok-specs.ensures.keys)
    (c.in_ok-made.ensures ∙ ap (λ specs. with_defaults specs c.args.keys.now) (sym c.in_ok-index.ensures)) c.specify_each.ensures
