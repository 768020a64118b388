-- The maps have the items for entries.
use Rattle.std.proofs.Common.{◌≡◌, ap, ◌∙◌, sym}
use Rattle.std.specs.FinMap as map
use Rattle.std.specs.Cmp.Lexicographic.{pointwise}
use Rattle.general_words.specs.Texts.{text_cmp}
use Rattle.key_meta.specs.Same.{same_item}
use Rattle.key_meta.proofs.metas.MetaPartialEq.eq.Goals as goal

pub returns : goal.returns
returns c =
    let mine : c.self.inside.items ≡ map.entries c.args.self.now = sym (map.entries-from_sorted text_cmp c.self.inside.items c.entries.ensures.sorted) ∙ ap map.entries c.self.view_is in
    let others : c.other.inside.items ≡ map.entries c.args.other.now = sym (map.entries-from_sorted text_cmp c.other.inside.items c.entries-2.ensures.sorted) ∙ ap map.entries c.other.view_is in
    c.eq.ensures
    ∙ (λ i. pointwise same_item (c.entries.ensures.all i) (c.entries-2.ensures.all i))
    ∙ (λ i. pointwise same_item (mine i) (others i))
