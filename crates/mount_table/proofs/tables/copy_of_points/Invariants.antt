-- The ones so far have been copied.
use Rattle.std.proofs.Common.{◌≡◌, take}
use Rattle.mount_table.proofs.tables.copy_of_points.Given as goal

abbrev pub invariant-loop-point : goal.invariant-loop-point
invariant-loop-point l = l.copied.items ≡ take l.point-index l.points
