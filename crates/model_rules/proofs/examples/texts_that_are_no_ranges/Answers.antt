use Rattle.std.specs.Prelude.{false, [], pos, ◌≤ℤ◌, codes}
use Rattle.std.proofs.Common.{refl, sym, subst, lit<}
use Rattle.model_rules.specs.Number.{IsNumber}
use Rattle.model_rules.specs.Range.{IsItem, Single, Between}
use Rattle.model_rules.specs.declared.intervals.Interval.{Interval}
use Rattle.model_rules.proofs.NumberOnce.{IsNumber-once}
use Rattle.model_rules.proofs.RangeOnce.{IsNumber-front, one_front_alone, two_parts_once}
use Rattle.model_rules.proofs.SmallTexts.{number_by_test, no_empty_item, no_first, no_second}
use Rattle.model_rules.proofs.examples.texts_that_are_no_ranges.Goals as goal

ten : IsNumber (codes "10") (pos 10)
ten =
    number_by_test false (codes "10") refl (lit< tt) (record { above = record { le = tt }; below = record { le = tt } })

one : IsNumber (codes "1") (pos 1)
one =
    number_by_test false (codes "1") refl (lit< tt) (record { above = record { le = tt }; below = record { le = tt } })

no_falling_item : (interval : Interval) → IsItem (codes "10-1") interval → ⊥
no_falling_item interval (Single l h) =
    one_front_alone (codes "10-1") (codes "10") (codes "1") (IsNumber-front (codes "10-1") interval.low l) (IsNumber-front (codes "10") (pos 10) ten) refl
no_falling_item interval (Between first last e f g o) =
    let same = two_parts_once (codes "10") (codes "1") first last (IsNumber-front (codes "10") (pos 10) ten) (IsNumber-front first interval.low f) e in
    let low = IsNumber-once (codes "10") interval.low (pos 10) (subst (λ t. IsNumber t interval.low) (sym same.0) f) ten in
    let high = IsNumber-once (codes "1") interval.high (pos 1) (subst (λ t. IsNumber t interval.high) (sym same.1) g) one in
    let falls : pos 10 ≤ℤ pos 1 = subst (λ n. n ≤ℤ pos 1) low (subst (λ n. interval.low ≤ℤ n) high o) in
    falls.le

pub returns-clause-falling : goal.returns-clause-falling
returns-clause-falling c = λ intervals. no_first (codes "10-1") [] intervals no_falling_item

pub returns-clause-empty : goal.returns-clause-empty
returns-clause-empty c = λ intervals. no_first [] [] intervals no_empty_item

pub returns-clause-last : goal.returns-clause-last
returns-clause-last c = λ intervals. no_second (codes "1") [] [] intervals no_empty_item
