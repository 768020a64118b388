use Rattle.seat_lock.proofs.Turning.{shuts, shuts-as}
use Rattle.seat_lock.proofs.openings.shut.Goals as goal

pub unreachable-requires : goal.unreachable-requires
unreachable-requires g c =
    let r = c.requires in let last = c.close_with-closed.ensures.values.2 in
    let shut = shuts g.V.Storied.maker g.V.Storied.stands _ _ _ last.1.0 _ _ last.1.1 r.outside.free r.all _ last.4 _ c.take-value.ensures.value in
    c.in_default.not-Some shut.0 shut.1

pub returns : goal.returns
returns g c =
    let r = c.requires in let last = c.close_with-closed.ensures.values.2 in
    shuts-as g.V.Storied.maker g.V.Storied.stands _ _ _ _ _ c.in-Some.is (shuts g.V.Storied.maker g.V.Storied.stands _ _ _ last.1.0 _ _ last.1.1 r.outside.free r.all _ last.4 _ c.take-value.ensures.value)
