use Rattle.model_undo.proofs.UndoLemmas.{last-there}
use Rattle.model_undo.proofs.laws.the_inverse_of_the_last_commit_is_there.Goals as goal

pub returns : goal.returns
returns c = last-there
