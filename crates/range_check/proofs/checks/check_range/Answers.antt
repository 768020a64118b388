use Rattle.std.specs.Prelude.{ℕ, List, ℤ}
use Rattle.std.specs.Option.{option_map}
use Rattle.std.proofs.Common.{sym, ap, subst, ◌∙◌, Bor, rules}
use Rattle.model_rules.specs.Number.{IsNumber}
use Rattle.model_rules.specs.Range.{IsRange, LiesIn}
use Rattle.model_rules.specs.Rules.{BadRange, OutOfRange, breach}
use Rattle.model_rules.specs.declared.intervals.Interval.{Interval}
use Rattle.range_check.proofs.RangeLemmas.{keeps_range}
use Rattle.range_check.proofs.checks.check_range.Goals as goal

pub returns-then-is_in_one : goal.returns-then-is_in_one
returns-then-is_in_one c = λ broken h.
    let range : IsRange c.in-Some.text.now c.in-Some-2.intervals.items = search rules in
    keeps_range c.args.value.now c.args.meta.now c.in-Some.text.now c.in-Some-2.intervals.items broken (sym c.get.ensures ∙ ap (option_map (λ (t : Bor (List ℕ)). t.now)) c.in-Some.is) range (subst (λ is. (n : ℤ) × IsNumber c.args.value.now n × LiesIn is n) c.as_slice.ensures.value (c.is_in_one.ensures.yes c.if-is_in_one.true)) h

pub returns-in_ok-given-in-None : goal.returns-in_ok-given-in-None
returns-in_ok-given-in-None c =
    let none : (i : List Interval) → IsRange c.in-Some.text.now i → ⊥ = search rules in
    BadRange c.in-Some.text.now (sym c.get.ensures ∙ ap (option_map (λ (t : Bor (List ℕ)). t.now)) c.in-Some.is) none (ap (breach 3) c.in_ok-given-in-None.ensures)

pub returns-in_ok-given-in-Some-2 : goal.returns-in_ok-given-in-Some-2
returns-in_ok-given-in-Some-2 c =
    let range : IsRange c.in-Some.text.now c.in-Some-2.intervals.items = search rules in
    OutOfRange c.in-Some.text.now c.in-Some-2.intervals.items (sym c.get.ensures ∙ ap (option_map (λ (t : Bor (List ℕ)). t.now)) c.in-Some.is) range (λ n is inside. c.is_in_one.ensures.no c.if-is_in_one.false n is (subst (λ xs. LiesIn xs n) (sym c.as_slice.ensures.value) inside)) (ap (breach 4) c.in_ok-given-in-Some-2.ensures)
