-- No whole name so far is too long, and the lines so far are added.
use Rattle.std.proofs.Common.{◌≡◌, ◌++◌, None, take, string_bytes}
use Rattle.std.specs.List.{flat_map}
use Rattle.general_words.specs.Searches.{first_some}
use Rattle.key_name.specs.Joining.{joined}
use Rattle.tool_commands.specs.Commands.Trees.{bytes_over}
use Rattle.tool_commands.specs.Lines.{line_of_conflict}
use Rattle.tool_commands.proofs.commands.merging.push_all.Given as goal

abbrev pub invariant-loop-name : goal.invariant-loop-name
invariant-loop-name l =
    (first_some (λ name. bytes_over (joined l.into name)) (take l.name-index l.names) ≡ None)
    × (string_bytes l.lines ≡ string_bytes l.initial.lines ++ flat_map (λ name. line_of_conflict (joined l.into name)) (take l.name-index l.names))
