-- The ones so far have been copied.
use Rattle.std.proofs.Common.{◌≡◌, take}
use Rattle.mount_table.proofs.tables.copy_of_mounts.Given as goal

abbrev pub invariant-loop-mount : goal.invariant-loop-mount
invariant-loop-mount l = l.copied.items ≡ take l.mount-index l.mounts
