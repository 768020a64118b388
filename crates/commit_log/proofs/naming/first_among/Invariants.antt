-- The first mark is that of the marks so far, from the last one on.
use Rattle.std.proofs.Common.{◌≡◌, ◌≤◌, drop, length}
use Rattle.commit_log.specs.Naming.{first_mark}
use Rattle.commit_log.proofs.naming.first_among.Given as goal

abbrev pub invariant-loop-left : goal.invariant-loop-left
invariant-loop-left l = record {
  within : l.left ≤ length l.marks;
  first : l.first ≡ first_mark (drop l.left l.marks) l.front l.not_by;
}

abbrev pub decreases-loop-left : goal.decreases-loop-left
decreases-loop-left l = l.left
