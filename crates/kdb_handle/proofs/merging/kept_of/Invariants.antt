-- The keys are those that are kept of the mounts so far.
use Rattle.std.proofs.Common.{map as over, take}
use Rattle.model_store.specs.Sets.{kept}
use Rattle.set_split.specs.Union.{IsUnion}
use Rattle.store_verdict.specs.RecordView.{record_of}
use Rattle.kdb_handle.proofs.merging.kept_of.Given as goal

abbrev pub invariant-loop-mount : goal.invariant-loop-mount
invariant-loop-mount l = IsUnion (over (kept (record_of l.rec)) (take l.mount-index l.mount-items)) l.keys
