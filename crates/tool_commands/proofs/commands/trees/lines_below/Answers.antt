-- The lines of all keys, where each is listed, are those of the keys that are.
use Rattle.std.proofs.Common.{◌++◌, [], string_bytes, if◌then◌else◌, ap, sym, ◌∙◌, append-nil}
use Rattle.std.specs.FinMap as map
use Rattle.std.specs.List.{flat_map}
use Rattle.tool_commands.specs.Commands.Trees.{is_listed}
use Rattle.tool_commands.specs.Lines.{line_of_name}
use Rattle.tool_commands.proofs.TreeLemmas.{flat_map-where}
use Rattle.tool_commands.proofs.commands.trees.lines_below.Goals as goal

pub returns : goal.returns
returns c =
    let above = c.args.above.now in
    sym (append-nil (string_bytes c.loop-name.lines))
    ∙ ap (λ keys. string_bytes c.loop-name.lines ++ flat_map (λ key. if is_listed above key.0 then line_of_name key.0 else []) keys) (sym c.in-None.ensures.steps.0)
    ∙ c.loop-name.invariant
    ∙ flat_map-where (λ key. is_listed above key.0) (λ key. line_of_name key.0) (map.entries c.args.keys.now)
