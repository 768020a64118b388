-- The lines so far, with those of the names to come, are the lines of all.
use Rattle.std.proofs.Common.{◌≡◌, [], ◌∷◌, ◌++◌, string_bytes}
use Rattle.std.specs.FinMap as map
use Rattle.std.specs.List.{flat_map}
use Rattle.tool_commands.proofs.commands.metadata.lines_of_meta.Given as goal

abbrev pub invariant-loop-name : goal.invariant-loop-name
invariant-loop-name l =
    string_bytes l.lines ++ flat_map (λ item. item.0 ++ 10 ∷ []) l.name-iterator
    ≡ flat_map (λ item. item.0 ++ 10 ∷ []) (map.entries l.metadata)
