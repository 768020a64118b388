-- Each image has the stronger property.
use Rattle.kdb_outside.proofs.Moments.{EveryImage-weaker, EverySince-weaker}
use Rattle.kdb_outside.proofs.laws.weaker_properties_hold_too.Goals as goal

pub returns-clause-images : goal.returns-clause-images
returns-clause-images g c =
    λ weaker every. EveryImage-weaker (g.D.Disk.may_leave c.args.disk.now) g.P.ImageProperty.holds g.Q.ImageProperty.holds weaker every

pub returns-clause-moments : goal.returns-clause-moments
returns-clause-moments g c =
    λ since weaker every. EverySince-weaker (g.D.Disk.left_since c.args.disk.now) since g.P.ImageProperty.holds g.Q.ImageProperty.holds weaker every
