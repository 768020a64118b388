-- The map has the items for entries.
use Rattle.std.proofs.Common.{sym, ap, ◌∙◌, subst}
use Rattle.std.specs.FinMap as map
use Rattle.general_words.specs.Texts.{text_cmp}
use Rattle.key_meta.specs.MetaView.{AreItems}
use Rattle.key_meta.proofs.metas.Meta.iter.Goals as goal

pub returns-clause-all : goal.returns-clause-all
returns-clause-all c =
    c.entries.ensures.all ∙ sym (map.entries-from_sorted text_cmp c.self.inside.items c.entries.ensures.sorted)
    ∙ ap map.entries c.self.view_is

pub returns-clause-items : goal.returns-clause-items
returns-clause-items c =
    subst AreItems (sym (map.entries-from_sorted text_cmp c.self.inside.items c.entries.ensures.sorted) ∙ ap map.entries c.self.view_is) c.self.invariant
