-- The map has the items for entries, and each text that is found is an item's.
use Rattle.std.proofs.Common.{length, ◌==◌, sym, ap, ◌∙◌}
use Rattle.std.specs.FinMap as map
use Rattle.general_words.specs.Texts.{text_cmp}
use Rattle.key_meta.proofs.ItemLemmas.{IsItem-find}
use Rattle.key_meta.proofs.metas.Meta.is_empty.Goals as goal

pub returns-clause-empty : goal.returns-clause-empty
returns-clause-empty c =
    c.is_empty.ensures
    ∙ ap (λ items. length items == 0) (c.entries.ensures.all ∙ sym (map.entries-from_sorted text_cmp c.self.inside.items c.entries.ensures.sorted) ∙ ap map.entries c.self.view_is)

pub returns-clause-texts : goal.returns-clause-texts
returns-clause-texts c = λ name text found.
    IsItem-find name text c.self.inside.items c.self.invariant
    (sym (map.get-from_sorted text_cmp c.self.inside.items name c.entries.ensures.sorted) ∙ ap (λ m. map.get m name) c.self.view_is ∙ found)
