-- A read says all that a call says which goes on, and more.
use Rattle.kdb_outside.proofs.Frames.{GoesOn-then, OnlyReads-goes_on}
use Rattle.kdb_outside.proofs.laws.calls_go_on_as_one.Goals as goal

pub returns-clause-read : goal.returns-clause-read
returns-clause-read g c = OnlyReads-goes_on g.D.Disk c.args.before.now c.args.after.now

pub returns-clause-two : goal.returns-clause-two
returns-clause-two g c = GoesOn-then g.D.Disk c.args.before.now c.args.between.now c.args.after.now
