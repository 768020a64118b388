use Rattle.intent_journal.proofs.ListCalm.{one_calm}
use Rattle.intent_journal.proofs.calm.one_image_is_calm.Goals as goal

pub returns : goal.returns
returns g c only files doubt outcomes =
    one_calm (g.D.Disk.seen c.args.disk.now) (g.D.Disk.may_leave c.args.disk.now) files doubt only outcomes
