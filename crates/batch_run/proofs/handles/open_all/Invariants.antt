-- So many handles were opened as sessions came.
use Rattle.std.proofs.Common.{◌≡◌, ◌≤◌, length, vec_capacity}
use Rattle.batch_run.specs.Opening.{AreOpened}
use Rattle.kdb_handle.specs.Views.{lock_of, plan_of, room_of, seats_of, spare_of}
use Rattle.batch_run.proofs.handles.open_all.Given as goal

abbrev pub invariant-loop-number : goal.invariant-loop-number
invariant-loop-number g l = record {
  count : length l.handles.items ≡ l.number-index;
  room : length l.numbers ≤ vec_capacity l.handles;
  opened : AreOpened (lock_of l.store) (plan_of l.store) l.script l.handles.items (seats_of l.seats) (room_of l.seats);
  flusher : spare_of l.seats ≡ spare_of l.initial.seats;
}
