-- The names so far.
use Rattle.std.proofs.Common.{◌≡◌, take, string_bytes}
use Rattle.kdb_print.specs.Replies.{line_of_conflicts}
use Rattle.kdb_print.proofs.replying.line_of_conflicts.Given as goal

abbrev pub invariant-loop-name : goal.invariant-loop-name
invariant-loop-name l = string_bytes l.line ≡ line_of_conflicts (take l.name-index l.names)
