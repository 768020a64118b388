use Rattle.std.proofs.Common.{◌∷◌, [], sym, ap, ◌∙◌}
use borrow.Author.Tests.{eqb-true}
use Rattle.key_set.specs.EntryView.{entry_of}
use Rattle.model_specified.specs.SpecMeta.{laid_over}
use Rattle.plugin_chain.specs.Layers.{laid}
use Rattle.plugin_chain.proofs.LayerLemmas.{laid-none}
use Rattle.plugin_chain.proofs.SetLemmas.{value_alone_ok, value_under_said}
use Rattle.plugin_chain.proofs.specifying.specified_entry.Goals as goal

pub returns-then-is_empty : goal.returns-then-is_empty
returns-then-is_empty c =
    value_alone_ok entry_of c.args.specs.now c.args.name.now (entry_of c.args.entry.now) (laid c.in_ok-layers.layers.items) c.changed_value.result c.in_ok-layers.ensures
    (laid-none c.in_ok-layers.layers.items (sym c.in_ok-layers.layers.ok.0 ∙ eqb-true _ _ (sym c.is_empty.ensures ∙ c.if-is_empty.true))) c.changed_value.ensures

pub returns : goal.returns
returns c =
    let entry = entry_of c.args.entry.now in
    value_under_said c.args.specs.now c.args.name.now entry (laid c.in_ok-layers.layers.items) c.lay_over.new.meta c.in_ok-value.value c.in_ok-layers.ensures
    (c.in_ok-lay_over.ensures.ok ∙ ap (λ m. laid_over (m ∷ entry.meta ∷ [])) (c.in_ok-meta.ensures ∙ ap laid c.deref.ensures.value)) c.in_ok-value.ensures
