-- Behind each get the fronts lie at or above the commit that was in the way.
use Rattle.kdb_handle.proofs.RisingLemmas.{rising}
use Rattle.kdb_handle.proofs.laws.the_commits_in_the_way_rise.Goals as goal
use Rattle.model_store.specs.Store.{formats_of}

pub returns : goal.returns
returns g c files parent strategy tries old new ours after tried end =
    rising (formats_of g.F.Formats) files parent strategy tries old ours new after tried end
