-- The lines of the mounts so far.
use Rattle.std.proofs.Common.{◌≡◌, take, string_bytes}
use Rattle.std.specs.List.{flat_map}
use Rattle.tool_commands.specs.Lines.{line_of_mount}
use Rattle.tool_single.proofs.answering.lines_of_mounts.Given as goal

abbrev pub invariant-loop-i : goal.invariant-loop-i
invariant-loop-i l = string_bytes l.lines ≡ flat_map line_of_mount (take l.i l.table)
