use Rattle.general_words.proofs.Texts.{text_cmp-total, text_cmp-IsAntisymmetric}
use Rattle.general_words.proofs.laws.the_order_of_texts_is_total.Goals as goal

pub returns-clause-total : goal.returns-clause-total
returns-clause-total c = text_cmp-total

pub returns-clause-antisymmetric : goal.returns-clause-antisymmetric
returns-clause-antisymmetric c = text_cmp-IsAntisymmetric
