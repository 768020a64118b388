use Rattle.std.proofs.Common.{◌≡◌, ◌++◌, List, All}
use Rattle.seat_lock.specs.Known.{Known}
use Rattle.seat_lock.specs.Boards.{IsOutside, HasAll}
use Rattle.seat_lock.proofs.openings.gather.Given as goal

abbrev pub invariant-loop-seat : goal.invariant-loop-seat
invariant-loop-seat g l =
    (l.all.table_id ≡ l.board.shared.table_id) × IsOutside l.all.me × All (λ seat. seat.place ≡ l.board.shared.table_id) l.seats.items
    × ((rest : List (Known g.row.V-Entry.Denot)) × (l.initial.seats.items ≡ l.seats.items ++ rest) × HasAll g.V.Storied.maker rest l.all.me.0)

abbrev pub decreases-loop-seat : goal.decreases-loop-seat
decreases-loop-seat g l = goal.left-loop-seat g l
