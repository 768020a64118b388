use Rattle.std.proofs.Common.{◌∷◌, [], sym, ap, subst, ◌∙◌}
use borrow.Author.Tests.{eqb-true}
use Rattle.std.specs.Prelude.{OnOk}
use Rattle.kdb_outside.specs.Faults.{HasRisen}
use Rattle.key_set.specs.EntryView.{entry_of}
use Rattle.model_specified.specs.SpecMeta.{laid_over}
use Rattle.plugin_chain.specs.Layers.{laid, meta_of}
use Rattle.plugin_chain.specs.Steps.{Adds}
use Rattle.plugin_chain.proofs.LayerLemmas.{laid-none, laid-one}
use Rattle.plugin_chain.proofs.WalkLemmas.{key_alone, key_said, key_under}
use Rattle.plugin_chain.proofs.checking.check_key.Goals as goal

pub returns-then-is_empty-clause-ok : goal.returns-then-is_empty-clause-ok
returns-then-is_empty-clause-ok g c =
    let layers = c.in_ok-layers.layers in
    subst (λ key. OnOk c.check_once.result (Adds (HasRisen (g.P.Patterns.refusals c.args.patterns.now) (g.P.Patterns.refusals c.check_once.new.patterns)) key c.args.list.now.items c.check_once.new.list.items))
    (key_alone c.args.specs.now c.args.name.now (entry_of c.args.entry.now) (laid layers.items) c.as_str-value.result.now c.in_ok-layers.ensures
    (laid-none layers.items (sym layers.ok.0 ∙ eqb-true _ _ (sym c.is_empty.ensures ∙ c.if-is_empty.true))) c.as_str-value.ensures.bytes) c.check_once.ensures.ok

pub returns-then-is_empty-2-clause-ok : goal.returns-then-is_empty-2-clause-ok
returns-then-is_empty-2-clause-ok g c =
    let layers = c.in_ok-layers.layers in
    subst (λ key. OnOk c.check_layer.result (Adds (HasRisen (g.P.Patterns.refusals c.args.patterns.now) (g.P.Patterns.refusals c.check_layer.new.patterns)) key c.args.list.now.items c.check_layer.new.list.items))
    (key_said c.args.specs.now c.args.name.now (entry_of c.args.entry.now) (laid layers.items) (meta_of c.index.result.now) c.as_str-value.result.now c.in_ok-layers.ensures
    (laid-one layers.items c.index.result.now (sym layers.ok.0 ∙ sym c.len.ensures ∙ c.if-len-eq1.true) c.index.ensures)
    (eqb-true _ _ (sym c.is_empty-then-len-eq1.ensures.empty ∙ c.if-is_empty-2.true)) c.as_str-value.ensures.bytes) c.check_layer.ensures.ok

pub returns-clause-ok : goal.returns-clause-ok
returns-clause-ok g c =
    let entry = entry_of c.args.entry.now in
    subst (λ key. OnOk c.check_once-2.result (Adds (HasRisen (g.P.Patterns.refusals c.args.patterns.now) (g.P.Patterns.refusals c.check_once-2.new.patterns)) key c.args.list.now.items c.check_once-2.new.list.items))
    (key_under c.args.specs.now c.args.name.now entry (laid c.in_ok-layers.layers.items) c.lay_over.new.meta c.as_str-value.result.now c.in_ok-layers.ensures
    (c.in_ok-lay_over.ensures.ok ∙ ap (λ m. laid_over (m ∷ entry.meta ∷ [])) (c.in_ok-meta.ensures ∙ ap laid c.deref.ensures.value)) c.as_str-value.ensures.bytes) c.check_once-2.ensures.ok
