-- The texts so far are the whole array where the next item is missing.
use Rattle.std.proofs.Common.{◌≡◌, ◌<◌, ◌≤◌, ◌^◌, None, length, rules, sym, ap, subst, ◌∙◌}
use Rattle.std.specs.FinMap as map
use Rattle.model_maps.specs.Entry.{item_name}
use Rattle.model_maps.proofs.ArrayLemmas.{array_texts-items}
use Rattle.key_meta.proofs.metas.Meta.array.Goals as goal

pub returns-in-None-clause-texts : goal.returns-in-None-clause-texts
returns-in-None-clause-texts c =
    let meta = c.args.self.now in
    let prefix = c.args.prefix.now in
    let texts = c.loop-index.texts.items in
    let index = c.loop-index.index in
    let count : length texts ≡ index = c.loop-index.invariant.0 in
    let none : map.get meta (item_name prefix index) ≡ None = ap (map.get meta) (sym (c.deref.ensures ∙ c.in_ok-name.ensures)) ∙ sym c.in-None.ensures in
    let few : length texts ≤ 2 ^ 64 = search rules in
    c.from_vec.ensures
    ∙ sym (array_texts-items meta prefix texts
    (λ i within. c.loop-index.invariant.1 i (subst (λ n. i < n) count within))
    (ap (λ n. map.get meta (item_name prefix n)) count ∙ none)
    few)
