use Rattle.intent_journal.proofs.ListCalm.{listed_calm}
use Rattle.intent_journal.proofs.calm.a_listed_disk_is_calm.Goals as goal

pub returns : goal.returns
returns g c tells names before files entries doubt state either =
    listed_calm (g.D.Disk.seen c.args.disk.now) (g.D.Disk.may_leave c.args.disk.now) names before files entries doubt state (g.D.Disk.read_is_image c.args.disk.now tells) either
