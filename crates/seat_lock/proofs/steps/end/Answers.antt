use Rattle.std.proofs.Common.{rules}
use Rattle.seat_lock.proofs.Turning.{ends-back}
use Rattle.seat_lock.proofs.steps.end.Goals as goal

pub fetch_add-requires : goal.fetch_add-requires
fetch_add-requires g c =
    let r = c.requires in (search rules, search rules, ends-back g.V.Storied.maker g.V.Storied.stands _ _ g.V.Storied.more _ _ _ _ c.args.value c.exchange-empty.ensures.3 r.holds.0 r.holds.1 r.story r.gains)
