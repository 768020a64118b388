use Rattle.model_crashes.specs.Runs.{files_of}
use Rattle.store_phases.proofs.Resting.{resting_only}
use Rattle.store_phases.proofs.laws.a_run_rests_between_its_calls.Goals as goal

pub returns : goal.returns
returns g c opened run store = resting_only g.D.Disk c.args.journal.now run.names (files_of run) run.doubt store.rests
