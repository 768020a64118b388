-- Each content that a crash leaves of the file is an image's.
use Rattle.kdb_outside.proofs.Moments.{EveryImage-each}
use Rattle.kdb_outside.proofs.laws.images_have_what_contents_have.Goals as goal

pub returns : goal.returns
returns g c =
    λ each. EveryImage-each (g.D.Disk.may_leave c.args.disk.now) c.args.file.now g.Q.ContentProperty.holds each
