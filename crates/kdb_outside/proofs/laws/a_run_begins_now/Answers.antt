-- Since the present moment a crash leaves only what it leaves now.
use Rattle.kdb_outside.proofs.Moments.{EverySince-now}
use Rattle.kdb_outside.proofs.laws.a_run_begins_now.Goals as goal

pub returns : goal.returns
returns g c =
    let disk = c.args.disk.now in
    λ tells every. EverySince-now (g.D.Disk.may_leave disk) (g.D.Disk.left_since disk) (g.D.Disk.moment disk) g.P.ImageProperty.holds (λ image. g.D.Disk.only_now disk image tells) every
