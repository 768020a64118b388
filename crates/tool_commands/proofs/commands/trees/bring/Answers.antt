use Rattle.std.proofs.Common.{◌≡◌, true, All, sym, subst}
use Rattle.std.specs.FinMap as map
use Rattle.model_names.specs.Below.{is_at_or_below}
use Rattle.model_maps.specs.KeyMap.{KeyMap}
use Rattle.tool_commands.proofs.BringLemmas.{sources-below}
use Rattle.tool_commands.proofs.commands.trees.bring.Goals as goal

pub set_over-requires : goal.set_over-requires
set_over-requires c =
    subst (λ (keys : KeyMap). All (λ key. is_at_or_below c.args.name.now key.0 ≡ true) (map.entries keys)) (sym c.in_ok-taken.ensures.taken) (sources-below c.args.extent c.args.name.now c.args.keys)
