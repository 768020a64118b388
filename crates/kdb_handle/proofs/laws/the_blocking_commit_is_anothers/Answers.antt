-- By the fronts of the handle's own commits.
use Rattle.kdb_handle.proofs.BlockLemmas.{blocked_by_another}
use Rattle.kdb_handle.proofs.laws.the_blocking_commit_is_anothers.Goals as goal
use Rattle.model_store.specs.Store.{formats_of}

pub returns : goal.returns
returns g c lock plan = blocked_by_another (formats_of g.F.Formats) lock plan
