use Rattle.std.proofs.Common.{sym, ap, ◌∷◌, [], ◌∙◌}
use borrow.Author.Tests.{eqb-true}
use Rattle.model_specified.specs.SpecMeta.{laid_over}
use Rattle.plugin_chain.specs.Layers.{laid}
use Rattle.plugin_chain.proofs.LayerLemmas.{bare_more, one_more}
use Rattle.plugin_chain.proofs.layers.add_layer.Goals as goal

pub returns : goal.returns
returns c = record { ok = one_more c.args.layers.now.items c.push.new.self.items _ c.in_ok-push.ensures.items }

pub returns-then-is_empty : goal.returns-then-is_empty
returns-then-is_empty c = record {
  ok = bare_more _ c.meta.result.now (eqb-true _ _ (sym c.is_empty.ensures.empty ∙ c.if-is_empty.true))
      ∙ ap (λ m. laid_over (laid c.args.layers.now.items ∷ m ∷ [])) c.meta.ensures;
}
