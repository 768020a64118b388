use Rattle.std.proofs.Common.{length, sym, ap, ◌∙◌}
use Rattle.std.specs.Prelude.{if◌then◌else◌}
use Rattle.std.specs.FinMap as finite
use Rattle.model_specified.specs.SpecMeta.{said_of}
use Rattle.model_specified.specs.Specified.{is_specified}
use Rattle.plugin_chain.proofs.LayerLemmas.{laid-none}
use Rattle.plugin_chain.proofs.specifying.layers_of_key.Goals as goal

pub returns-else-is_specified : goal.returns-else-is_specified
returns-else-is_specified c =
    laid-none c.new.result.items (ap length c.new.ensures.items)
    ∙ sym (ap (λ b. if b then said_of c.args.specs.now c.args.name.now.parts else finite.empty) (ap is_specified (sym c.namespace.ensures) ∙ sym c.is_specified.ensures ∙ c.if-is_specified.false))
