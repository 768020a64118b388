use Rattle.model_undo.proofs.UndoLemmas.{overtaken-none, overtaken-some}
use Rattle.model_undo.proofs.laws.a_commit_is_overtaken_by_the_first_later_one_with_a_name_of_it.Goals as goal

pub returns-clause-some : goal.returns-clause-some
returns-clause-some c = overtaken-some

pub returns-clause-none : goal.returns-clause-none
returns-clause-none c = overtaken-none
