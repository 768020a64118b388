-- The lines of the changes so far.
use Rattle.std.proofs.Common.{◌≡◌, ◌++◌, take, string_bytes, map as over}
use Rattle.kdb_print.specs.Replies.{line_of_changed}
use Rattle.model_lines.specs.Lines.{ended}
use Rattle.kdb_print.proofs.news_lines.push_told.Given as goal

abbrev pub invariant-loop-item : goal.invariant-loop-item
invariant-loop-item l =
    string_bytes l.text ≡ string_bytes l.fn.text ++ ended (over line_of_changed (take l.item-index l.told))
