-- Each try met one more commit of another.
use Rattle.model_batch.proofs.Bounds.{spent-others}
use Rattle.model_batch.proofs.laws.a_merge_is_not_spent_by_fewer_commits_than_its_tries.Goals as goal
use Rattle.model_store.specs.Store.{formats_of}

pub returns : goal.returns
returns g c files sessions procs history steps replies fair =
    spent-others (formats_of g.F.Formats) files sessions procs history steps replies fair
