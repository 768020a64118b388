-- The map has the items for entries.
use Rattle.std.proofs.Common.{length, sym, ap, ◌∙◌}
use Rattle.std.specs.FinMap as map
use Rattle.general_words.specs.Texts.{text_cmp}
use Rattle.key_meta.proofs.metas.Meta.len.Goals as goal

pub returns : goal.returns
returns c =
    c.len.ensures.len
    ∙ ap length (sym (map.entries-from_sorted text_cmp c.self.inside.items c.len.ensures.sorted) ∙ ap map.entries c.self.view_is)
