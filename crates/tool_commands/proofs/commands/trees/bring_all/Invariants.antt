-- The first name that is too long is that of a key to come, and the keys to come are set over those so far.
use Rattle.std.proofs.Common.{◌≡◌, true, All}
use Rattle.std.specs.FinMap as map
use Rattle.model_names.specs.Below.{is_at_or_below}
use Rattle.tool_commands.specs.Commands.Trees.{first_too_long, with_brought}
use Rattle.tool_commands.proofs.commands.trees.bring_all.Given as goal

abbrev pub invariant-loop-name : goal.invariant-loop-name
invariant-loop-name l =
    (first_too_long l.from l.to l.name-iterator ≡ first_too_long l.from l.to (map.entries l.taken))
    × (with_brought l.from l.to l.keys l.name-iterator ≡ with_brought l.from l.to l.fn.keys (map.entries l.taken))
    × All (λ key. is_at_or_below l.from key.0 ≡ true) l.name-iterator
