-- A text without a minus before it is a number by its digits alone.
use Rattle.std.specs.Prelude.{◌≡◌, ◌≢◌, ℕ, false, List, ◌∷◌, Option, None, Some, ℤ, MatchOption}
use Rattle.std.proofs.Common.{refl, Bor}
use Rattle.model_rules.specs.Number.{IsNumber, AreDigitsOf}
use Rattle.model_rules.proofs.NumberOnce.{IsNumber-digits}

pub plain_number : (text : List ℕ) (r : Option ℤ) → ((rest : List ℕ) → text ≢ 45 ∷ rest)
    → MatchOption r ((number : ℤ) → AreDigitsOf false text number → ⊥) (AreDigitsOf false text)
    → MatchOption r ((number : ℤ) → IsNumber text number → ⊥) (IsNumber text)
plain_number text None bare none = λ number p. none number (IsNumber-digits false text number (λ _. bare) p)
plain_number text (Some number) bare p = record { minus = false; digits = text; spelled = refl; number = p }

-- a text from which no minus was stripped has none
pub no_prefix : (text : List ℕ) (r : Option (Bor (List ℕ)))
    → MatchOption r ((rest : List ℕ) → text ≢ 45 ∷ rest) (λ x. text ≡ 45 ∷ x.now) → r ≡ None → (rest : List ℕ)
    → text ≢ 45 ∷ rest
no_prefix text None bare e = bare
no_prefix text (Some rest) h e = absurd cc
