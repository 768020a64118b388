-- Those of the entries so far have been copied.
use Rattle.std.proofs.Common.{◌≡◌, map, take}
use Rattle.mount_table.proofs.tables.mounts_in_order.Given as goal

abbrev pub invariant-loop-entry : goal.invariant-loop-entry
invariant-loop-entry l = l.mounts.items ≡ map (λ entry. entry.1) (take l.entry-index l.table)
