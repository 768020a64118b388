-- The records so far are those of the first handles, and have fetched nothing.
use Rattle.std.proofs.Common.{◌≡◌, length}
use Rattle.store_play.specs.Handles.{AreHandlesOf, AreNew, procs_at}
use Rattle.store_play.proofs.handles.new_records.Given as goal

abbrev pub invariant-loop-handle : goal.invariant-loop-handle
invariant-loop-handle l =
    record {
      count : length l.records.items ≡ l.handle;
      made : AreHandlesOf l.mounts (procs_at l.procs) l.records.items;
      new : AreNew l.records.items;
    }
