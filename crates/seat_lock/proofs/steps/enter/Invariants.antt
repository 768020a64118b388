use Rattle.std.proofs.Common.{◌≡◌}
use Rattle.seat_lock.specs.Boards.{IsWaiting}
use Rattle.seat_lock.proofs.steps.enter.Given as goal

abbrev pub invariant-loop : goal.invariant-loop
invariant-loop g l =
    (goal.iterator-loop g).can_next l.iterator' × (goal.iterator-loop g).is_finite l.iterator'
    × (l.seat.table_id ≡ l.initial.seat.table_id) × (l.seat.me ≡ l.initial.seat.me) × IsWaiting l.ticket l.seat.me
