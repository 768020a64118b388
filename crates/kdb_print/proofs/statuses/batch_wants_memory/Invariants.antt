-- No reply of the phases so far is such.
use Rattle.std.proofs.Common.{◌≡◌, false, take}
use Rattle.std.specs.List.{list_any}
use Rattle.kdb_print.specs.Replies.{is_memory}
use Rattle.kdb_print.proofs.statuses.batch_wants_memory.Given as goal

abbrev pub invariant-loop-phase : goal.invariant-loop-phase
invariant-loop-phase l = list_any (list_any (list_any is_memory)) (take l.phase-index l.phases) ≡ false
