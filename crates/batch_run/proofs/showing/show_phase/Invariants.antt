-- The replies of the sessions so far are shown, and those of the others are still in their rooms.
use Rattle.std.proofs.Common.{◌≡◌, ℕ, ◌<◌, ◌≤◌, length, get_or, take}
use Rattle.std.specs.Vec.{vec_capacity}
use Rattle.batch_script.specs.declared.steps.Steps.{Steps}
use Rattle.batch_run.specs.Rooms.{row_in}
use Rattle.batch_run.specs.Shown.{number_of, shown_row, told_at}
use Rattle.batch_run.proofs.showing.show_phase.Given as goal

abbrev pub invariant-loop-steps : goal.invariant-loop-steps
invariant-loop-steps l = record {
  shown : l.shown.items ≡ shown_row l.numbers (row_in l.initial.rooms) (take l.steps-index l.phase);
  left : (j : ℕ) (d : Steps) → l.steps-index ≤ j → j < length l.phase → told_at l.numbers (row_in l.rooms) (number_of (get_or l.phase j d)) ≡ told_at l.numbers (row_in l.initial.rooms) (number_of (get_or l.phase j d));
  room : vec_capacity l.shown ≡ vec_capacity l.initial.shown;
}
