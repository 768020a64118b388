-- The phases so far are shown, and the rooms of the others are as they were.
use Rattle.std.proofs.Common.{◌≡◌, ℕ, ◌≤◌, length, get_or, take, map as over}
use Rattle.std.specs.Vec.{vec_capacity}
use Rattle.batch_run.specs.Rooms.{row_in}
use Rattle.batch_run.specs.Shown.{shown_rows}
use Rattle.batch_run.specs.declared.rooms.PhaseRooms.{PhaseRooms}
use Rattle.batch_run.proofs.showing.show_all.Given as goal

abbrev pub invariant-loop-place : goal.invariant-loop-place
invariant-loop-place l = record {
  many : length l.shown.items ≡ l.place;
  shown : l.shown.items ≡ shown_rows l.numbers (take l.place l.phases) (over row_in (take l.place l.initial.rooms));
  left : (q : ℕ) (e : PhaseRooms) → l.place ≤ q → get_or l.rooms q e ≡ get_or l.initial.rooms q e;
  room : vec_capacity l.shown ≡ vec_capacity l.initial.shown;
}
