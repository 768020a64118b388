-- The fronts of a session cover its own commits.
use Rattle.model_batch.proofs.Bounds.{alone-unblocked, conflict-anothers}
use Rattle.model_batch.proofs.laws.a_conflict_is_with_the_commit_of_another.Goals as goal
use Rattle.model_store.specs.Store.{formats_of}

pub returns-clause-anothers : goal.returns-clause-anothers
returns-clause-anothers g c files sessions procs history steps replies fair i lt =
    conflict-anothers (formats_of g.F.Formats) files sessions procs history steps replies fair i lt

pub returns-clause-alone : goal.returns-clause-alone
returns-clause-alone g c files sessions procs history steps replies one fair =
    alone-unblocked (formats_of g.F.Formats) files sessions procs history steps replies one fair
