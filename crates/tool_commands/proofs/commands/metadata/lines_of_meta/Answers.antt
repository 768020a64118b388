-- Where no name is to come, the lines are all.
use Rattle.std.proofs.Common.{◌++◌, [], ◌∷◌, ap, sym, ◌∙◌, string_bytes, append-nil}
use Rattle.std.specs.List.{flat_map}
use Rattle.tool_commands.proofs.commands.metadata.lines_of_meta.Goals as goal

pub returns : goal.returns
returns c =
    sym (append-nil (string_bytes c.loop-name.lines))
    ∙ ap (λ items. string_bytes c.loop-name.lines ++ flat_map (λ item. item.0 ++ 10 ∷ []) items) (sym c.in-None.ensures.steps.0)
    ∙ c.loop-name.invariant
