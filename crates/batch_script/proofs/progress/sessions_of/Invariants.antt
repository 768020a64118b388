-- The sessions of the rooms that are left, and those so far from the last on, are all.
use Rattle.std.proofs.Common.{◌≡◌, ◌++◌, ◌≤◌, length}
use Rattle.std.specs.Prelude.{reverse}
use Rattle.batch_script.specs.Rooms.{gathered}
use Rattle.batch_script.proofs.progress.sessions_of.Given as goal

abbrev pub invariant-loop-steps : goal.invariant-loop-steps
invariant-loop-steps l = record {
  all : gathered 1 l.initial.rooms.items ≡ gathered 1 l.rooms.items ++ reverse l.sessions.items;
  few : length l.rooms.items ≤ length l.initial.rooms.items;
}

abbrev pub decreases-loop-steps : goal.decreases-loop-steps
decreases-loop-steps l = length l.rooms.items
