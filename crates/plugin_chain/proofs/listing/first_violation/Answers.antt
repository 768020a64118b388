use Rattle.std.proofs.Common.{sym, ap, ◌∙◌}
use Rattle.model_specified.specs.Specified.{with_defaults}
use Rattle.model_specified.specs.Violations.{is_owned}
use Rattle.plugin_chain.proofs.WalkLemmas.{first_is}
use Rattle.plugin_chain.proofs.listing.first_violation.Goals as goal

pub returns-clause-first : goal.returns-clause-first
returns-clause-first g c =
    first_is _ c.args.keys.now c.in_ok-index.index c.in_ok-made.made (is_owned c.args.points.now c.args.touched.now) c.first_in.result (c.in_ok-index.ensures ∙ c.in_ok-specs.ensures.keys)
    (c.in_ok-made.ensures ∙ ap (λ specs. with_defaults specs c.args.keys.now) (sym c.in_ok-index.ensures)) c.first_in.ensures.first
