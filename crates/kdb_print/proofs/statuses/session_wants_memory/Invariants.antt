-- No reply so far is such.
use Rattle.std.proofs.Common.{◌≡◌, false, take}
use Rattle.std.specs.List.{list_any}
use Rattle.kdb_print.specs.Replies.{is_memory}
use Rattle.kdb_print.proofs.statuses.session_wants_memory.Given as goal

abbrev pub invariant-loop-reply : goal.invariant-loop-reply
invariant-loop-reply l = list_any is_memory (take l.reply-index l.replies) ≡ false
