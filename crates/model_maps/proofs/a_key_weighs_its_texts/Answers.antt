use Rattle.std.proofs.Common.{ap, ◌+◌, length}
use Rattle.general_words.specs.Texts.{text_cmp}
use Rattle.general_words.proofs.Maps.{sum_by-empty}
use Rattle.model_maps.proofs.a_key_weighs_its_texts.Goals as goal

pub returns : goal.returns
returns c = ap (λ meta. 72 + meta) (sum_by-empty text_cmp (λ m. length m.0 + length m.1))
