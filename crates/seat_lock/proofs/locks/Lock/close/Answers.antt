use Rattle.seat_lock.proofs.Dealing.{closes}
use Rattle.seat_lock.proofs.locks.Lock.close.Goals as goal

pub returns : goal.returns
returns g c =
    closes g.V.Storied.maker g.V.Storied.stands c.args.self c.args.seats.items _ _ _ _ c.shut.result c.self.view_is c.gather-all.ensures.all c.shut.ensures
