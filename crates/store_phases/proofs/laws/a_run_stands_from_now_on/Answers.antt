use Rattle.store_phases.proofs.Stores.{IsStore-from_now}
use Rattle.store_phases.proofs.laws.a_run_stands_from_now_on.Goals as goal

pub returns : goal.returns
returns g c opened run store = IsStore-from_now g.D.Disk opened c.args.journal.now run store
