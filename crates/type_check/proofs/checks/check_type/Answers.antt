use Rattle.std.specs.Prelude.{ℕ, List}
use Rattle.std.specs.Option.{option_map}
use Rattle.std.proofs.Common.{sym, ap, ◌∙◌, Bor}
use Rattle.model_rules.specs.Rules.{UnknownType, WrongType, breach}
use Rattle.type_check.proofs.checks.check_type.Goals as goal

pub returns-in_ok-given-in-None : goal.returns-in_ok-given-in-None
returns-in_ok-given-in-None c =
    UnknownType c.in-Some.word.now (sym c.get.ensures ∙ ap (option_map (λ (t : Bor (List ℕ)). t.now)) c.in-Some.is) (sym c.kind_of.ensures ∙ c.in-None.is) (ap (breach 1) c.in_ok-given-in-None.ensures)

pub returns-in_ok-given-in-Some-kind_of : goal.returns-in_ok-given-in-Some-kind_of
returns-in_ok-given-in-Some-kind_of c =
    WrongType c.in-Some.word.now c.in-Some-kind_of.kind (sym c.get.ensures ∙ ap (option_map (λ (t : Bor (List ℕ)). t.now)) c.in-Some.is) (sym c.kind_of.ensures ∙ c.in-Some-kind_of.is) (c.is_of_kind.ensures.no c.if-is_of_kind.false) (ap (breach 2) c.in_ok-given-in-Some-kind_of.ensures)
