use Rattle.intent_journal.proofs.Opened.{calm_files, opened_fresh, opened_good, opened_bad, opened_unknown, opened_holds}
use Rattle.intent_journal.proofs.laws.an_opening_tells_what_it_read.Goals as goal

pub returns-clause-fresh : goal.returns-clause-fresh
returns-clause-fresh g c result opens = opened_fresh g.D.Disk c.args.disk.now result opens

pub returns-clause-good : goal.returns-clause-good
returns-clause-good g c tells result opens = opened_good g.D.Disk c.args.disk.now result opens tells

pub returns-clause-bad : goal.returns-clause-bad
returns-clause-bad g c tells result opens = opened_bad g.D.Disk c.args.disk.now result opens tells

pub returns-clause-unknown : goal.returns-clause-unknown
returns-clause-unknown g c tells result opens = opened_unknown g.D.Disk c.args.disk.now result opens tells

pub returns-clause-either : goal.returns-clause-either
returns-clause-either g c tells files doubt calm =
    calm_files (g.D.Disk.seen c.args.disk.now) (g.D.Disk.may_leave c.args.disk.now) files doubt calm (g.D.Disk.read_is_image c.args.disk.now tells)

pub returns-clause-opened : goal.returns-clause-opened
returns-clause-opened g c tells files doubt calm result opens =
    opened_holds g.D.Disk c.args.disk.now result opens tells files doubt calm
