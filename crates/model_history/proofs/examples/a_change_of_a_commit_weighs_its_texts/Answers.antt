use Rattle.std.proofs.Common.{ap, ◌+◌, length}
use Rattle.general_words.specs.Texts.{text_cmp}
use Rattle.general_words.proofs.Maps.{sum_by-empty}
use Rattle.model_history.proofs.examples.a_change_of_a_commit_weighs_its_texts.Goals as goal

pub returns-clause-new : goal.returns-clause-new
returns-clause-new c =
    ap (λ meta. 64 + (0 + (16 + 7 + (3 + meta)))) (sum_by-empty text_cmp (λ m. length m.0 + length m.1))
