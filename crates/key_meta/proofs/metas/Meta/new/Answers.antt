-- No items make the empty map.
use Rattle.std.proofs.Common.{ap, ◌∙◌}
use Rattle.std.specs.FinMap as map
use Rattle.general_words.specs.Texts.{text_cmp}
use Rattle.general_words.proofs.Maps.{from_sorted-nil}
use Rattle.key_meta.proofs.metas.Meta.new.Goals as goal

pub returns : goal.returns
returns c = ap (map.from_sorted {R = text_cmp}) c.new.ensures ∙ from_sorted-nil text_cmp
