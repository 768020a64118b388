use Rattle.std.proofs.Common.{sym, ◌∙◌}
use borrow.Author.Tests.{eqb-true}
use Rattle.type_check.proofs.EnumLemmas.{keeps_bare}
use Rattle.type_check.proofs.checks.check_enum.Goals as goal

pub returns-then-is_empty : goal.returns-then-is_empty
returns-then-is_empty c = λ broken h.
    keeps_bare c.args.value.now c.args.meta.now broken (eqb-true _ _ (sym c.is_empty.ensures.empty ∙ c.if-is_empty.true)) h

pub returns : goal.returns
returns c = c.check_listed.ensures c.args.meta.now c.in_ok-listing.ensures
