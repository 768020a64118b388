use Rattle.model_undo.proofs.UndoLemmas.{stands-still}
use Rattle.model_undo.proofs.laws.names_of_a_commit_that_is_there_stand_as_it_left_them.Goals as goal

pub returns : goal.returns
returns c = λ start history number name there is. stands-still start history number name there.latest is
