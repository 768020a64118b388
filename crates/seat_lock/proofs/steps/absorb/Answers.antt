use Rattle.std.proofs.Common.{rules}
use Rattle.seat_lock.proofs.Turning.{joins, compares}
use Rattle.seat_lock.proofs.steps.absorb.Goals as goal

pub join_seat-requires : goal.join_seat-requires
join_seat-requires g c =
    let r = c.requires.outside.1 in (search rules, search rules, r.hand, search rules, joins g.V.Storied.maker g.V.Storied.stands _ _ _ _ _ _ r.ticket r.free)

pub load-requires : goal.load-requires
load-requires g c = (search rules, search rules, compares g.V.Storied.maker g.V.Storied.stands _ _ _ _ _)
