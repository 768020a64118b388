use Rattle.general_words.proofs.Fronts.{front-none, front-next, front-all}
use Rattle.general_words.proofs.Texts.{text_cmp-total, text_cmp-IsAntisymmetric}
use Rattle.general_words.proofs.laws.entries_join_the_front_of_a_map_one_by_one.Goals as goal

pub returns-clause-none : goal.returns-clause-none
returns-clause-none c = λ texts. front-none texts

pub returns-clause-next : goal.returns-clause-next
returns-clause-next c = λ texts i entry there. front-next text_cmp-total text_cmp-IsAntisymmetric texts i entry there

pub returns-clause-all : goal.returns-clause-all
returns-clause-all c = λ texts n le. front-all texts n le
