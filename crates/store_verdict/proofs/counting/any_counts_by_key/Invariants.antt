-- None of the mounts so far counts by key.
use Rattle.std.proofs.Common.{◌≡◌, false, take}
use Rattle.std.specs.List.{list_any}
use Rattle.model_store.specs.Store.{counts_in}
use Rattle.store_verdict.proofs.counting.any_counts_by_key.Given as goal

abbrev pub invariant-loop-mount : goal.invariant-loop-mount
invariant-loop-mount l = list_any (counts_in l.table) (take l.mount-index l.mounts) ≡ false
