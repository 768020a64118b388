-- The map has the items for entries.
use Rattle.std.proofs.Common.{◌+◌, length, sum_by, sym, ap, ◌∙◌}
use Rattle.std.specs.FinMap as map
use Rattle.general_words.specs.Saturated.{saturated}
use Rattle.general_words.specs.Texts.{text_cmp}
use Rattle.key_meta.proofs.metas.Meta.bytes.Goals as goal

pub returns : goal.returns
returns c =
    let items = c.entries.ensures.all ∙ sym (map.entries-from_sorted text_cmp c.self.inside.items c.entries.ensures.sorted) ∙ ap map.entries c.self.view_is in
    c.bytes_of.ensures ∙ ap (λ es. saturated (sum_by (λ item. length item.0 + length item.1) es)) items
