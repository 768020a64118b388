use Rattle.std.proofs.Common.{rules}
use Rattle.seat_lock.proofs.Turning.{cuts}
use Rattle.seat_lock.proofs.steps.deal.Goals as goal

pub split_seat-requires : goal.split_seat-requires
split_seat-requires g c =
    let r = c.requires.outside in (search rules, search rules, cuts g.V.Storied.maker g.V.Storied.stands _ _ 1 _ _ r.ticket r.free)
