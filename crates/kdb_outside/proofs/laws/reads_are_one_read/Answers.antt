-- What the first read left alone the second one did too.
use Rattle.kdb_outside.proofs.Frames.{OnlyReads-none, OnlyReads-then}
use Rattle.kdb_outside.proofs.laws.reads_are_one_read.Goals as goal

pub returns-clause-none : goal.returns-clause-none
returns-clause-none g c = OnlyReads-none g.D.Disk c.args.before.now

pub returns-clause-two : goal.returns-clause-two
returns-clause-two g c = OnlyReads-then g.D.Disk c.args.before.now c.args.between.now c.args.after.now
