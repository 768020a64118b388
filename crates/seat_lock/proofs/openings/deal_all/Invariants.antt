use Rattle.std.proofs.Common.{◌≡◌, ◌+◌, ◌-◌, ◌<◌, ◌≤◌, ℕ, [], length, vec_capacity, slice_get, Some}
use Rattle.seat_lock.specs.Known.{knowledge}
use Rattle.seat_lock.specs.Views.{idle_view, numbers_from}
use Rattle.seat_lock.proofs.openings.deal_all.Given as goal

abbrev pub invariant-loop-before : goal.invariant-loop-before
invariant-loop-before g l =
    (l.first.table_id ≡ l.initial.first.table_id)
    × (l.first.me ≡ (idle_view l.initial.first.me.0.seen (numbers_from l.before (l.count - l.before)), []))
    × (l.before ≤ l.count) × (length l.seats.items ≡ l.before) × (l.count ≤ vec_capacity l.seats)
    × ((k : ℕ) → k < l.before → slice_get l.seats.items k ≡ Some (knowledge l.board.shared.table_id (k + 1) l.initial.first.me.0.seen []))
