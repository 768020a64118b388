use Rattle.std.specs.Prelude.{◌≡◌, ℕ, List}
use Rattle.std.proofs.Common.{refl, ap, get_or, inl, inr, true≢false}
use Rattle.std.specs.Fmt.{digits}
use Rattle.model_json.proofs.examples.parts_side_by_side_are_of_one_kind.Goals as goal

pub returns-clause-items : goal.returns-clause-items
unfolding digits
returns-clause-items c = (inl (refl, tt), (inr (refl, (refl, tt)), tt))

pub returns-clause-mixed : goal.returns-clause-mixed
unfolding digits
returns-clause-mixed c fits =
    elim fits.1.0 [ inl names ↦ true≢false names.0 | inr items ↦ let clash : ◌≡◌ {A = ℕ} 120 35 = ap (λ (p : List ℕ). get_or p 0 0) items.1.0 in absurd cc ]

pub returns-clause-gap : goal.returns-clause-gap
unfolding digits
returns-clause-gap c fits =
    elim fits.1.0 [ inl names ↦ true≢false names.0 | inr items ↦ let clash : ◌≡◌ {A = ℕ} 50 49 = ap (λ (p : List ℕ). get_or p 1 0) items.1.0 in absurd cc ]
