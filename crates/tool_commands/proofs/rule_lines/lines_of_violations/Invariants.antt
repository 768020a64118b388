-- The lines of the violations so far.
use Rattle.std.proofs.Common.{◌≡◌, take, string_bytes}
use Rattle.std.specs.List.{flat_map}
use Rattle.tool_commands.specs.Lines.{line_of_violation}
use Rattle.tool_commands.proofs.rule_lines.lines_of_violations.Given as goal

abbrev pub invariant-loop-violation : goal.invariant-loop-violation
invariant-loop-violation l = string_bytes l.lines ≡ flat_map line_of_violation (take l.violation-index l.violations)
