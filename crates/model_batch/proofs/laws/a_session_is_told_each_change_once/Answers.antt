-- Each poll goes on from where the one before it ended.
use Rattle.model_batch.proofs.Polling.{fair-follows, watched-follows}
use Rattle.model_batch.proofs.laws.a_session_is_told_each_change_once.Goals as goal
use Rattle.model_store.specs.Store.{formats_of}

pub returns-clause-behind : goal.returns-clause-behind
returns-clause-behind g c files procs number history old new parent room front steps replies =
    watched-follows (formats_of g.F.Formats) files procs number history parent room front old new steps replies

pub returns-clause-fair : goal.returns-clause-fair
returns-clause-fair g c files sessions procs history steps replies =
    fair-follows (formats_of g.F.Formats) files sessions procs history steps replies
