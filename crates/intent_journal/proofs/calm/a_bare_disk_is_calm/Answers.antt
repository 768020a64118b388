use Rattle.intent_journal.proofs.ListCalm.{bare_calm}
use Rattle.intent_journal.proofs.calm.a_bare_disk_is_calm.Goals as goal

pub returns : goal.returns
returns g c tells bare files doubt state either =
    bare_calm (g.D.Disk.seen c.args.disk.now) (g.D.Disk.may_leave c.args.disk.now) bare files doubt state (g.D.Disk.read_is_image c.args.disk.now tells) either
