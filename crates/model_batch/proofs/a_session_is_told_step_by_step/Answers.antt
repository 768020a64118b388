-- Step by step.
use Rattle.model_batch.proofs.Telling.{tells-append, tells-later, tells-more}
use Rattle.model_batch.proofs.a_session_is_told_step_by_step.Goals as goal
use Rattle.model_store.specs.Store.{formats_of}

pub returns-clause-more : goal.returns-clause-more
returns-clause-more g c files procs number =
    tells-more (formats_of g.F.Formats) files procs number

pub returns-clause-both : goal.returns-clause-both
returns-clause-both g c files procs number =
    tells-append (formats_of g.F.Formats) files procs number

pub returns-clause-later : goal.returns-clause-later
returns-clause-later g c files procs number =
    tells-later (formats_of g.F.Formats) files procs number
