-- The lines so far, with those of the sessions to come, are the lines of all.
use Rattle.std.proofs.Common.{◌≡◌, ◌++◌, drop, string_bytes}
use Rattle.kdb_print.specs.Printed.{lines_of_sessions}
use Rattle.model_lines.specs.Lines.{ended}
use Rattle.kdb_print.proofs.printing.push_sessions.Given as goal

abbrev pub invariant-loop-i : goal.invariant-loop-i
invariant-loop-i l =
    string_bytes l.text ++ ended (lines_of_sessions (drop l.i l.sessions) (drop l.i l.replies))
    ≡ string_bytes l.fn.text ++ ended (lines_of_sessions l.sessions l.replies)
