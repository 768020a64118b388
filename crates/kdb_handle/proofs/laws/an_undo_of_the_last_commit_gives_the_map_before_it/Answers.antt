use Rattle.kdb_handle.proofs.UndoLaws.{undoes_last}
use Rattle.kdb_handle.proofs.laws.an_undo_of_the_last_commit_gives_the_map_before_it.Goals as goal
use Rattle.model_store.specs.Store.{formats_of}

pub returns : goal.returns
returns g c files old new number commit aside keys after undone =
    undoes_last (formats_of g.F.Formats) files old new number commit aside keys after undone
