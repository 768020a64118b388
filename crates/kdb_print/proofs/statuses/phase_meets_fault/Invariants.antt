-- No reply of the sessions so far is such.
use Rattle.std.proofs.Common.{◌≡◌, false, take}
use Rattle.std.specs.List.{list_any}
use Rattle.kdb_print.specs.Replies.{is_disk_fault}
use Rattle.kdb_print.proofs.statuses.phase_meets_fault.Given as goal

abbrev pub invariant-loop-replies : goal.invariant-loop-replies
invariant-loop-replies l = list_any (list_any is_disk_fault) (take l.replies-index l.sessions) ≡ false
