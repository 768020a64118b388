-- The world follows by the answer, and the run's entries stay those of the history.
use Rattle.model_store.specs.Store.{formats_of}
use Rattle.store_core.proofs.CommitLemmas.{stands_committed}
use Rattle.store_core.proofs.laws.a_core_stands_after_each_commit.Goals as goal

pub returns : goal.returns
returns g c store opened records next sets world run later r p answer stands committed =
    stands_committed (formats_of g.F.Formats) store g.D.Disk opened c.args.before.now c.args.after.now records next sets world run later
    r p stands answer committed
