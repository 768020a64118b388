-- Each session has the next handle.
use Rattle.std.proofs.Common.{List, ap, arith, length, refl, ◌∙◌}
use Rattle.batch_run.proofs.Opened.{one-more, opened-next}
use Rattle.kdb_handle.specs.Handles.{HandleValue}
use Rattle.kdb_handle.specs.Views.{lock_of, plan_of, room_of, seats_of}
use Rattle.batch_run.proofs.handles.open_all.Goals as goal

pub loop-number-init : goal.loop-number-init
loop-number-init g c =
    record {
      count = ap (λ (hs : List HandleValue). length hs) c.requires.none;
      room = c.requires.room;
      opened = c.requires.opened;
      flusher = refl;
    }

pub loop-number-preserved : goal.loop-number-preserved
loop-number-preserved g c =
    let was = c.loop-number.invariant in
    let opened = c.in_ok-handle.ensures in
    let pushed = c.push_reserved.ensures in record {
      count = one-more c.loop-number.handles.items c.push_reserved.new.self.items c.in_ok-handle.handle c.loop-number.number-index pushed.items was.count;
      room = omega (arith, pushed.capacity, was.room);
      opened =
          opened-next (lock_of c.args.store.now) (plan_of c.args.store.now) c.args.script.now c.args.numbers.now c.as_slice.result.now c.loop-number.number-index c.loop-number.handles.items c.push_reserved.new.self.items c.in_ok-handle.handle (seats_of c.loop-number.seats)
          (seats_of c.open_one.new.seats) (room_of c.loop-number.seats) (room_of c.open_one.new.seats) c.requires.numbers c.as_slice.ensures was.count pushed.items was.opened opened.fresh opened.free opened.fewer;
      flusher = opened.flusher ∙ was.flusher;
    }
