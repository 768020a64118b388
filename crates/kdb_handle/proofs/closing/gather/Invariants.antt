-- The seats of the last handles have been moved.
use Rattle.std.proofs.Common.{◌≡◌, ◌++◌, List}
use Rattle.std.specs.Vec.{vec_capacity}
use Rattle.kdb_handle.specs.Handles.{HandleValue}
use Rattle.kdb_handle.specs.Stores.{seats_back}
use Rattle.kdb_handle.proofs.closing.gather.Given as goal

abbrev pub invariant-loop-handle : goal.invariant-loop-handle
invariant-loop-handle l = record {
  moved : List HandleValue;
  whole : l.initial.handles.items ≡ l.handles.items ++ moved;
  items : l.seats.items ≡ l.initial.seats.items ++ seats_back moved;
  room : vec_capacity l.seats ≡ vec_capacity l.initial.seats;
}

abbrev pub decreases-loop-handle : goal.decreases-loop-handle
decreases-loop-handle l = goal.left-loop-handle l
