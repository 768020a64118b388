-- Either a crash came before the call's end, or it leaves an image of the disk behind it.
use Rattle.kdb_outside.proofs.Moments.{EverySince-after}
use Rattle.kdb_outside.proofs.laws.a_run_goes_on_over_a_call.Goals as goal

pub returns : goal.returns
returns g c =
    λ since so_far past every elapses. EverySince-after _ since _ _ _ g.P.ImageProperty.holds so_far past every elapses
