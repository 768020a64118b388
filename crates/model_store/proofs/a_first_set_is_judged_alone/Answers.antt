-- By what a record keeps of the mounts that its first get involved.
use Rattle.model_store.specs.Store.{formats_of}
use Rattle.model_store.proofs.FirstSets.{never-blocked, never-full, never-large, never-unseen}
use Rattle.model_store.proofs.a_first_set_is_judged_alone.Goals as goal

pub returns-clause-fetched : goal.returns-clause-fetched
returns-clause-fetched g c = never-unseen (formats_of g.F.Formats)

pub returns-clause-free : goal.returns-clause-free
returns-clause-free g c = never-blocked (formats_of g.F.Formats)

pub returns-clause-room : goal.returns-clause-room
returns-clause-room g c store handle parent keys late n light is =
    never-full (formats_of g.F.Formats) store handle parent keys light late n is

pub returns-clause-small : goal.returns-clause-small
returns-clause-small g c store handle parent keys late m n early is =
    never-large (formats_of g.F.Formats) store handle parent keys early late m n is
