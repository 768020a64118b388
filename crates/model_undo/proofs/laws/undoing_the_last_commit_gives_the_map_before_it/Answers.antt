use Rattle.model_undo.proofs.UndoLemmas.{undone-last}
use Rattle.model_undo.proofs.laws.undoing_the_last_commit_gives_the_map_before_it.Goals as goal

pub returns : goal.returns
returns c = λ start history last. undone-last history last start
