-- What was taken so far stands before what is left.
use Rattle.std.proofs.Common.{◌≡◌, ◌≤◌, ◌-◌, ℕ, List, Some, length}
use Rattle.tool_single.proofs.TakeLemmas.{HasTaken}
use Rattle.tool_single.proofs.reading.take_all.Given as goal

abbrev pub invariant-loop-alloc : goal.invariant-loop-alloc
invariant-loop-alloc g l = record {
  few : length l.bytes.items ≤ l.initial.most;
  later : g.S.Source.faults l.initial.input ≤ g.S.Source.faults l.input;
  taken : (whole : List ℕ) → g.S.Source.left l.initial.input ≡ Some whole → HasTaken whole l.bytes.items (g.S.Source.left l.input);
}

abbrev pub decreases-loop-alloc : goal.decreases-loop-alloc
decreases-loop-alloc g l = l.initial.most - length l.bytes.items
