use Rattle.std.proofs.Common.{sym, ap, ◌∙◌}
use Rattle.model_rules.specs.Rules.{breach}
use Rattle.type_check.proofs.ListingLemmas.{breaks_listed, keeps_empty, keeps_listed}
use Rattle.type_check.proofs.checks.check_listed.Goals as goal

pub returns-then-is_empty : goal.returns-then-is_empty
returns-then-is_empty c =
    λ meta are broken. keeps_empty c.args.value.now meta c.args.listing.now broken are (c.is_empty.ensures.yes c.if-is_empty.true)

pub returns-then-has : goal.returns-then-has
returns-then-has c =
    λ meta are broken. keeps_listed c.args.value.now meta c.args.listing.now broken are (sym c.has.ensures ∙ c.if-has.true)

pub returns : goal.returns
returns c = λ meta are.
    breaks_listed c.args.value.now meta c.args.listing.now _ are (c.is_empty.ensures.no c.if-is_empty.false) (sym c.has.ensures ∙ c.if-has.false) (ap (breach 5) c.in_ok-given.ensures)
