-- The lines of the replies so far.
use Rattle.std.proofs.Common.{◌≡◌, ◌++◌, take, string_bytes}
use Rattle.std.specs.List.{flat_map}
use Rattle.kdb_print.specs.Replies.{lines_of_reply}
use Rattle.model_lines.specs.Lines.{ended}
use Rattle.kdb_print.proofs.replying.push_replies.Given as goal

abbrev pub invariant-loop-reply : goal.invariant-loop-reply
invariant-loop-reply l =
    string_bytes l.text ≡ string_bytes l.fn.text ++ ended (flat_map lines_of_reply (take l.reply-index l.replies))
