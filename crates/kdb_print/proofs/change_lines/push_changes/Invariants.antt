-- The lines of the changes so far.
use Rattle.std.proofs.Common.{◌≡◌, ◌++◌, take, string_bytes}
use Rattle.std.specs.List.{flat_map}
use Rattle.commit_log.specs.CommitView.{change_of}
use Rattle.kdb_print.specs.Printed.{lines_of_change}
use Rattle.model_lines.specs.Lines.{ended}
use Rattle.kdb_print.proofs.change_lines.push_changes.Given as goal

abbrev pub invariant-loop-change : goal.invariant-loop-change
invariant-loop-change l =
    string_bytes l.text ≡ string_bytes l.fn.text ++ ended (flat_map (λ change. lines_of_change (change_of change)) (take l.change-index l.changes))
