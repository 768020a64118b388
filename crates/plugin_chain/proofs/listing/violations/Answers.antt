use Rattle.std.proofs.Common.{sym, ap, subst, ◌∙◌}
use Rattle.model_specified.specs.Specified.{with_defaults}
use Rattle.model_specified.specs.Violations.{AreViolations, is_within}
use Rattle.plugin_chain.proofs.WalkLemmas.{all_are}
use Rattle.plugin_chain.proofs.listing.violations.Goals as goal

pub returns-clause-all : goal.returns-clause-all
returns-clause-all g c = subst (AreViolations _ (is_within c.args.at.now) c.args.keys.now) (sym c.from_vec.ensures)
    (all_are _ c.args.keys.now c.in_ok-index.index c.in_ok-made.made (is_within c.args.at.now) c.in_ok-list.list.items (c.in_ok-index.ensures ∙ c.in_ok-specs.ensures.keys)
    (c.in_ok-made.ensures ∙ ap (λ specs. with_defaults specs c.args.keys.now) (sym c.in_ok-index.ensures)) c.in_ok-list.ensures.all)
