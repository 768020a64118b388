-- The file is read as the journal's disk has it.
use Rattle.std.proofs.Common.{sym}
use Rattle.store_core.proofs.mounting.add_next.Goals as goal

pub returns-in-Ok-clause-step : goal.returns-in-Ok-clause-step
returns-in-Ok-clause-step g c = λ tells begins.
    c.in-Ok.ensures.step (g.D.Disk.seen c.args.journal.now.disk) c.in-Some.mount.now begins (sym c.in-Some.ensures) (c.in_ok-read.ensures.told tells)
