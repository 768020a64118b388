use Rattle.std.proofs.Common.{◌≡◌, [], ◌∷◌, length, map, rules, sym, ap, ◌∙◌}
use Rattle.std.specs.FinMap as finite
use Rattle.std.specs.Vec.Iter.{into_iter_items}
use Rattle.std.proofs.lemmas.List.{nil_from_length}
use Rattle.model_specified.specs.SpecMeta.{laid_over}
use Rattle.plugin_chain.specs.Globs.{lent, seen}
use Rattle.plugin_chain.specs.Layers.{laid}
use Rattle.plugin_chain.proofs.LayerLemmas.{laid-none}
use Rattle.plugin_chain.proofs.SpecLemmas.{metas_of, said_last, said_next, said_nothing, said_start}
use Rattle.plugin_chain.proofs.spec_metas.layers_of.Goals as goal

pub returns-then-len-eq0 : goal.returns-then-len-eq0
returns-then-len-eq0 c =
    laid-none c.new.result.items (ap length c.new.ensures.items)
    ∙ said_nothing c.args.specs.now c.args.path.now.parts (ap (λ keys. length (finite.entries keys)) (sym c.keys.ensures) ∙ sym c.len.ensures ∙ c.if-len-eq0.true)

pub loop-glob-init : goal.loop-glob-init
loop-glob-init c =
    let path = c.args.path.now.parts in
    let all : into_iter_items c.into_iter-glob-iterator.result ≡ c.in_ok-globs.globs.items = search rules in
    ap (λ globs. laid_over (laid c.in_ok-layers.layers.items ∷ metas_of path (map seen (lent globs)))) all
    ∙ said_start c.args.specs.now c.keys-2.result.now path c.in_ok-own.own (laid c.in_ok-layers.layers.items) (lent c.in_ok-globs.globs.items) c.keys-2.ensures c.in_ok-own.ensures c.in_ok-layers.ensures c.in_ok-globs.ensures

pub loop-glob-preserved : goal.loop-glob-preserved
loop-glob-preserved c =
    let turn : into_iter_items c.loop-glob.glob-iterator ≡ c.in-Some.glob ∷ into_iter_items c.next.new.self = search rules in
    said_next c.args.path.now.parts (seen c.in-Some.glob.now) (map seen (lent (into_iter_items c.loop-glob.glob-iterator))) (map seen (lent (into_iter_items c.next.new.self)))
    (laid c.loop-glob.layers.items) (laid c.if_pattern.new.layers.items) _ c.is_pattern.result
    (ap (λ globs. map seen (lent globs)) turn) c.is_pattern.ensures c.in_ok-if_pattern.ensures.ok c.loop-glob.invariant

pub returns : goal.returns
returns c =
    let none : into_iter_items c.loop-glob.glob-iterator ≡ [] = nil_from_length _ (sym c.loop-glob.glob-iterator.rest.ok.0 ∙ c.in-None.ensures.steps.0) in
    said_last c.args.path.now.parts (map seen (lent (into_iter_items c.loop-glob.glob-iterator))) (laid c.loop-glob.layers.items) _ (ap (λ globs. map seen (lent globs)) none) c.loop-glob.invariant
