-- Each text that is found is an item's.
use Rattle.std.proofs.Common.{sym, ap, ◌∙◌}
use Rattle.std.specs.FinMap as map
use Rattle.general_words.specs.Texts.{text_cmp}
use Rattle.key_meta.proofs.ItemLemmas.{IsItem-find}
use Rattle.key_meta.proofs.metas.Meta.copy.Goals as goal

pub returns-in_err-items-clause-texts : goal.returns-in_err-items-clause-texts
returns-in_err-items-clause-texts c = λ name text found.
    IsItem-find name text c.self.inside.items c.self.invariant
    (sym (map.get-from_sorted text_cmp c.self.inside.items name c.entries.ensures.sorted) ∙ ap (λ m. map.get m name) c.self.view_is ∙ found)

pub returns-clause-texts : goal.returns-clause-texts
returns-clause-texts c = λ name text found.
    IsItem-find name text c.self.inside.items c.self.invariant
    (sym (map.get-from_sorted text_cmp c.self.inside.items name c.entries.ensures.sorted) ∙ ap (λ m. map.get m name) c.self.view_is ∙ found)
