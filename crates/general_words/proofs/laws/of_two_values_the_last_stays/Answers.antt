use Rattle.general_words.proofs.Maps.{insert-insert}
use Rattle.general_words.proofs.Texts.{text_cmp-total, text_cmp-IsAntisymmetric}
use Rattle.general_words.proofs.laws.of_two_values_the_last_stays.Goals as goal

pub returns : goal.returns
returns c = λ texts key first last. insert-insert text_cmp-total text_cmp-IsAntisymmetric texts key first last
