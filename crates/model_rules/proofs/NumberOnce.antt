-- A text is one number at most.
use Rattle.std.specs.Prelude.{◌≡◌, ◌≢◌, ℕ, ◌<◌, Bool, true, false, List, ◌∷◌, drop, ℤ}
use Rattle.std.specs.Char.{digit_value}
use Rattle.std.specs.Str.Parse.{IsNumeral}
use Rattle.std.proofs.Common.{refl, sym, ap, subst, ◌∙◌, arith}
use Rattle.std.proofs.lemmas.Str.Parse.{digit_from_value}
use Rattle.model_rules.specs.Number.{IsNumber, AreDigitsOf, with_sign}

-- a minus is no digit
pub no_minus : (c : ℕ) → c ≡ 45 → digit_value c < 10 → ⊥
no_minus c e h = let r = digit_from_value c h in omega (arith, r, e)

minus_first : (digits : List ℕ) → IsNumeral 10 (45 ∷ digits) → ⊥
minus_first digits h = absurd (omega (arith, h.1.0))

-- digits that have no minus of their own unless one stands before them
abbrev pub IsBare : Bool → List ℕ → Type 0
IsBare minus digits = minus ≡ false → (rest : List ℕ) → digits ≢ 45 ∷ rest

same_digits : (m n : Bool) (d e : List ℕ) → with_sign m d ≡ with_sign n e → IsNumeral 10 d → IsBare n e
    → (m ≡ n) × (d ≡ e)
same_digits true true d e h x bare = (refl, ap (drop 1) h)
same_digits false false d e h x bare = (refl, h)
same_digits true false d e h x bare = absurd (bare refl d (sym h))
same_digits false true d e h x bare = absurd (minus_first e (subst (λ t. IsNumeral 10 t) h x))

-- a number's text tells its digits
pub IsNumber-digits : (minus : Bool) (digits : List ℕ) (number : ℤ) → IsBare minus digits
    → IsNumber (with_sign minus digits) number → AreDigitsOf minus digits number
IsNumber-digits minus digits number bare p =
    let same = same_digits p.minus minus p.digits digits (sym p.spelled) p.number.numeral bare in
    let here = subst (λ m. AreDigitsOf m p.digits number) same.0 p.number in
    subst (λ d. AreDigitsOf minus d number) same.1 here

bare_digits : (minus : Bool) (digits : List ℕ) → IsNumeral 10 digits → IsBare minus digits
bare_digits minus digits h = λ _ rest e. minus_first rest (subst (λ t. IsNumeral 10 t) e h)

pub IsNumber-once : (text : List ℕ) (a b : ℤ) → IsNumber text a → IsNumber text b → a ≡ b
IsNumber-once text a b p q =
    let there = subst (λ t. IsNumber t b) p.spelled q in
    let own = IsNumber-digits p.minus p.digits b (bare_digits p.minus p.digits p.number.numeral) there in
    p.number.is ∙ sym own.is
