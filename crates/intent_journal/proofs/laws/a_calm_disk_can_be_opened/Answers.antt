use Rattle.intent_journal.proofs.Opened.{calm_reads, calm_found}
use Rattle.intent_journal.proofs.laws.a_calm_disk_can_be_opened.Goals as goal

pub returns-clause-read : goal.returns-clause-read
returns-clause-read g c tells files doubt calm =
    calm_reads (g.D.Disk.seen c.args.disk.now) (g.D.Disk.may_leave c.args.disk.now) files doubt calm (g.D.Disk.read_is_image c.args.disk.now tells)

pub returns-clause-either : goal.returns-clause-either
returns-clause-either g c tells files doubt calm list is =
    calm_found (g.D.Disk.seen c.args.disk.now) (g.D.Disk.may_leave c.args.disk.now) files doubt list calm (g.D.Disk.read_is_image c.args.disk.now tells) is
