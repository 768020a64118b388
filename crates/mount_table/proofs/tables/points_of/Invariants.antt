-- Those of the entries so far have been copied.
use Rattle.std.proofs.Common.{◌≡◌, map, take}
use Rattle.mount_table.proofs.tables.points_of.Given as goal

abbrev pub invariant-loop-entry : goal.invariant-loop-entry
invariant-loop-entry l = l.points.items ≡ map (λ entry. entry.0) (take l.entry-index l.table)
