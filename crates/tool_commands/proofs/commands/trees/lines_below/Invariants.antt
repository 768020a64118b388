-- The lines so far, with those of the keys to come, are the lines of all.
use Rattle.std.proofs.Common.{◌≡◌, ◌++◌, [], if◌then◌else◌, string_bytes}
use Rattle.std.specs.FinMap as map
use Rattle.std.specs.List.{flat_map}
use Rattle.tool_commands.specs.Commands.Trees.{is_listed}
use Rattle.tool_commands.specs.Lines.{line_of_name}
use Rattle.tool_commands.proofs.commands.trees.lines_below.Given as goal

abbrev pub invariant-loop-name : goal.invariant-loop-name
invariant-loop-name l =
    string_bytes l.lines ++ flat_map (λ key. if is_listed l.above key.0 then line_of_name key.0 else []) l.name-iterator
    ≡ flat_map (λ key. if is_listed l.above key.0 then line_of_name key.0 else []) (map.entries l.keys)
