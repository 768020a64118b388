use Rattle.std.proofs.Common.{◌∷◌, [], sym, ap, ◌∙◌, arith}
use Rattle.model_specified.specs.SpecMeta.{laid_over}
use Rattle.plugin_chain.proofs.LayerLemmas.{laid-none, lay_last, lay_next}
use Rattle.plugin_chain.proofs.layers.lay_all.Goals as goal

pub returns-in_default : goal.returns-in_default
returns-in_default c = c.new.ensures ∙ sym (laid-none c.args.layers.now c.in_default.ensures.cases)

pub loop-layer-preserved : goal.loop-layer-preserved
loop-layer-preserved c =
    lay_next c.in-Some.others.now c.loop-layer.layer-index c.layer-item.result c.loop-layer.meta c.lay_over.new.meta _ (omega arith) c.layer-item.is (c.in_ok-lay_over.ensures.ok ∙ ap (λ m. laid_over (c.loop-layer.meta ∷ m ∷ [])) c.meta-in-loop-layer.ensures) c.loop-layer.invariant

pub returns : goal.returns
returns c =
    lay_last c.in-Some.others.now c.loop-layer.layer-index c.loop-layer.meta _ (omega arith) c.loop-layer.invariant
