-- The own mount doesn't stand among those so far.
use Rattle.std.proofs.Common.{◌≡◌, ℕ, ◌≤◌, slice_get, Some}
use Rattle.mount_table.specs.Table.{own_mount}
use Rattle.mounted_files.proofs.opening.own_place.Given as goal

abbrev pub invariant-loop-i : goal.invariant-loop-i
invariant-loop-i l = (j : ℕ) → slice_get l.table j ≡ Some own_mount → l.i ≤ j
