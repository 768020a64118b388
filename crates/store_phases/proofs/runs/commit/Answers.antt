use Rattle.model_crashes.specs.Runs.{files_of}
use Rattle.store_phases.proofs.Stores.{committed, failed}
use Rattle.store_phases.proofs.runs.commit.Goals as goal

pub returns-clause-committed : goal.returns-clause-committed
returns-clause-committed g c opened run store is of_run =
    let stored = c.store.ensures in
    committed g.D.Disk opened c.args.journal.now c.store.new.journal run c.args.files c.store.result store stored.phase.goes
    (stored.committed run.names (files_of run) run.doubt store.rests is of_run) stored.sure (stored.any_moment run.names (files_of run) run.doubt store.rests is of_run)

pub returns-clause-failed : goal.returns-clause-failed
returns-clause-failed g c opened run store is of_run =
    let stored = c.store.ensures in
    failed g.D.Disk opened c.args.journal.now c.store.new.journal run c.args.files c.store.result store stored.phase.goes
    (stored.failed run.names (files_of run) run.doubt store.rests is of_run) stored.phase.cause (stored.any_moment run.names (files_of run) run.doubt store.rests is of_run)

pub returns-clause-any_moment : goal.returns-clause-any_moment
returns-clause-any_moment g c opened run store is of_run =
    c.store.ensures.any_moment run.names (files_of run) run.doubt store.rests is of_run
