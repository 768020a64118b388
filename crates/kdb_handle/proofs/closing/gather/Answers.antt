-- There is room for each seat.
use Rattle.kdb_handle.proofs.CloseLemmas.{room_left}
use Rattle.std.specs.Vec.{vec_capacity}
use Rattle.kdb_handle.proofs.closing.gather.Goals as goal

pub push_reserved-requires : goal.push_reserved-requires
push_reserved-requires c =
    let was = c.loop-handle.invariant in
    room_left c.args.seats.items c.loop-handle.seats.items c.args.handles.items c.loop-handle.handles.items was.moved c.pop.new.self.items c.in-Some.handle c.loop-handle.seats.len (vec_capacity c.loop-handle.seats) (vec_capacity c.args.seats)
    c.loop-handle.seats.ok.0 was.items was.whole c.in-Some.ensures.items c.requires.room was.room
