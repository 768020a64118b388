-- The images behind the call are those before it.
use Rattle.kdb_outside.proofs.Moments.{EveryImage-kept, EverySince-kept}
use Rattle.kdb_outside.proofs.laws.a_run_goes_on_over_a_read.Goals as goal

pub returns-clause-images : goal.returns-clause-images
returns-clause-images g c = λ every keeps. EveryImage-kept _ _ g.P.ImageProperty.holds every keeps

pub returns-clause-moments : goal.returns-clause-moments
returns-clause-moments g c =
    λ since so_far past every keeps elapses. EverySince-kept _ since _ _ _ _ g.P.ImageProperty.holds so_far past every keeps elapses
