use Rattle.store_phases.proofs.Stores.{calm_of_run}
use Rattle.store_phases.proofs.laws.a_run_without_a_fault_is_calm.Goals as goal

pub returns : goal.returns
returns g c opened run store still = calm_of_run g.D.Disk opened c.args.journal.now run store still
