use Rattle.std.proofs.Common.{rules}
use Rattle.seat_lock.proofs.Turning.{looks}
use Rattle.seat_lock.proofs.steps.look.Goals as goal

pub load-requires : goal.load-requires
load-requires g c =
    let w = c.requires.waits in (search rules, search rules, looks g.V.Storied.maker g.V.Storied.stands _ _ _ _ _ w.place w.ticket w.free)
