use Rattle.kdb_handle.proofs.UndoLaws.{appends}
use Rattle.kdb_handle.proofs.laws.an_undo_appends_the_inverse.Goals as goal
use Rattle.model_store.specs.Store.{formats_of}

pub returns : goal.returns
returns g c files old new number commit aside keys after undone =
    appends (formats_of g.F.Formats) files old new number commit aside keys after undone
