use Rattle.intent_journal.proofs.OldForm.{calm_before, calm_now}
use Rattle.intent_journal.proofs.laws.the_old_form_is_calm_alike.Goals as goal

pub returns : goal.returns
returns g c tells old short files doubt =
    let seen = g.D.Disk.seen c.args.disk.now in
    let leaves = g.D.Disk.may_leave c.args.disk.now in
    let seen_is = g.D.Disk.read_is_image c.args.disk.now tells in
    (calm_before seen leaves files doubt old short seen_is, calm_now seen leaves files doubt old short seen_is)
