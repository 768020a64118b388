use Rattle.std.specs.Prelude.{◌≡◌, ℕ, List, false, ◌∷◌, ℤ, ◌≤ℤ◌, codes}
use Rattle.std.proofs.Common.{ap, subst, arith, get_or}
use Rattle.model_rules.specs.Number.{highest_number}
use Rattle.model_rules.proofs.NumberOnce.{IsNumber-digits}
use Rattle.model_rules.proofs.examples.texts_that_are_no_numbers.Goals as goal

pub returns-clause-plus : goal.returns-clause-plus
returns-clause-plus c = λ number p.
    let bare : (rest : List ℕ) → codes "+1" ≡ 45 ∷ rest → ⊥ = λ rest e. (let byte : ◌≡◌ {A = ℕ} 43 45 = ap (λ l. get_or l 0 0) e in absurd (omega arith)) in
    absurd (omega (arith, (IsNumber-digits false (codes "+1") number (λ _. bare) p).numeral.1.0))

pub returns-clause-beyond : goal.returns-clause-beyond
returns-clause-beyond c = λ number p.
    let bare : (rest : List ℕ) → codes "170141183460469231731687303715884105728" ≡ 45 ∷ rest → ⊥ = λ rest e. (let byte : ◌≡◌ {A = ℕ} 49 45 = ap (λ l. get_or l 0 0) e in absurd (omega arith)) in
    let digits = IsNumber-digits false (codes "170141183460469231731687303715884105728") number (λ _. bare) p in
    (subst (λ (n : ℤ). n ≤ℤ highest_number) digits.is digits.fits.below).le
