-- The lines so far, with those of the commits to come, are the lines of all.
use Rattle.std.proofs.Common.{◌≡◌, ◌+◌, ◌++◌, drop, string_bytes}
use Rattle.kdb_print.specs.Printed.{lines_of_commits, lines_of_history}
use Rattle.model_lines.specs.Lines.{ended}
use Rattle.kdb_print.proofs.commit_lines.push_history.Given as goal

abbrev pub invariant-loop-i : goal.invariant-loop-i
invariant-loop-i l =
    string_bytes l.text ++ ended (lines_of_commits l.mounts l.sessions (l.i + 1) (drop l.i l.history.commits))
    ≡ string_bytes l.fn.text ++ ended (lines_of_history l.mounts l.sessions l.history.commits)
