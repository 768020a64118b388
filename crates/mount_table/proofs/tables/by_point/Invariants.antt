-- The mounts so far stand in the table.
use Rattle.std.proofs.Common.{◌≡◌, take}
use Rattle.std.specs.FinMap as map
use Rattle.model_names.specs.Order.{name_cmp}
use Rattle.mount_table.specs.Table.{by_point}
use Rattle.mount_table.proofs.tables.by_point.Given as goal

abbrev pub invariant-loop-mount : goal.invariant-loop-mount
invariant-loop-mount l = map.from_sorted {R = name_cmp} l.table ≡ by_point (take l.mount-index l.mounts)
