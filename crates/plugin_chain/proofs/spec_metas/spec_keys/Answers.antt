use Rattle.std.proofs.Common.{◌≡◌, subst}
use Rattle.std.specs.Prelude.{IfOk}
use Rattle.model_maps.specs.KeyMap.{at_or_below}
use Rattle.plugin_chain.proofs.SpecLemmas.{are_in_spec}
use Rattle.plugin_chain.proofs.spec_metas.spec_keys.Goals as goal

pub returns-clause-in_spec : goal.returns-clause-in_spec
returns-clause-in_spec c =
    are_in_spec c.args.keys.now c.below-2.result (subst (λ at. IfOk c.below-2.result (λ copied. copied ≡ at_or_below at c.args.keys.now)) c.root.ensures c.below-2.ensures)
