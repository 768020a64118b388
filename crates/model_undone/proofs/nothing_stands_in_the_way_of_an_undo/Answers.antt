use Rattle.model_store.specs.Store.{formats_of}
use Rattle.model_undone.proofs.InverseSets.{never-blocked, never-same, never-unfetched}
use Rattle.model_undone.proofs.nothing_stands_in_the_way_of_an_undo.Goals as goal

pub returns-clause-fetched : goal.returns-clause-fetched
returns-clause-fetched g c =
    λ store history handle number m parent rec keys can. never-unfetched (formats_of g.F.Formats) store history handle parent rec keys number can m

pub returns-clause-free : goal.returns-clause-free
returns-clause-free g c =
    λ store history handle number m by parent rec keys can. never-blocked (formats_of g.F.Formats) store history handle parent rec keys number can m by

pub returns-clause-some : goal.returns-clause-some
returns-clause-some g c =
    λ store history handle number aside parent rec keys can. never-same (formats_of g.F.Formats) store history handle parent rec keys number can aside
