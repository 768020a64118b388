use Rattle.std.proofs.Common.{rules}
use Rattle.seat_lock.proofs.Turning.{draws}
use Rattle.seat_lock.proofs.steps.draw.Goals as goal

pub fetch_add-requires : goal.fetch_add-requires
fetch_add-requires g c =
    (search rules, search rules, draws g.V.Storied.maker g.V.Storied.stands _ _ _ _ _ c.requires.idle.0 c.requires.idle.1)
