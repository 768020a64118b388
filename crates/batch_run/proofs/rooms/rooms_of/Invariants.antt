-- The phases so far have their rooms.
use Rattle.std.proofs.Common.{◌≡◌, ℕ, ◌<◌, length, get_or}
use Rattle.batch_script.specs.declared.steps.Phase.{Phase}
use Rattle.batch_run.specs.Rooms.{AreRooms}
use Rattle.batch_run.specs.declared.rooms.PhaseRooms.{PhaseRooms}
use Rattle.batch_run.proofs.rooms.rooms_of.Given as goal

abbrev pub invariant-loop-phase : goal.invariant-loop-phase
invariant-loop-phase l = record {
  many : length l.rooms.items ≡ l.phase-index;
  each : (p : ℕ) (e : PhaseRooms) → p < length l.rooms.items → (phase : Phase) → AreRooms l.numbers (get_or l.phases p phase).sessions (get_or l.rooms.items p e);
}
