use Rattle.general_words.proofs.Searches.{first_some-IsFirstAnswer, first_some-all_none}
use Rattle.general_words.proofs.laws.the_first_answer_comes_before_all_others.Goals as goal

pub returns-clause-found : goal.returns-clause-found
returns-clause-found c = λ answer xs y e. first_some-IsFirstAnswer answer xs y e

pub returns-clause-none : goal.returns-clause-none
returns-clause-none c = λ answer xs e i x there. first_some-all_none answer xs e i x there
