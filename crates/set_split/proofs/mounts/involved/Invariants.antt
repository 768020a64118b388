-- Of the mounts so far, those are told that are involved.
use Rattle.std.proofs.Common.{◌≡◌}
use Rattle.std.specs.List.{filter, range_with_len}
use Rattle.set_split.specs.Involved.{is_involved}
use Rattle.set_split.proofs.mounts.involved.Given as goal

abbrev pub invariant-loop-i : goal.invariant-loop-i
invariant-loop-i l = l.mounts.items ≡ filter (is_involved l.points l.parent) (range_with_len 0 l.i)
