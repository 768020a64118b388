-- By the fronts of the involved mounts and the count of the handle's own commits: what is kept of them is the same in
-- the longer history.
use Rattle.kdb_handle.proofs.AcceptLemmas.{still_prepared}
use Rattle.kdb_handle.proofs.laws.an_accepted_set_is_still_prepared.Goals as goal
use Rattle.model_store.specs.Store.{formats_of}

pub returns : goal.returns
returns g c files earlier later number handle before rec parent keys set begins was is made ok =
    still_prepared (formats_of g.F.Formats) files earlier later number handle before rec parent keys set begins was is made ok
