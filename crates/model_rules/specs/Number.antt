-- Which texts are numbers: an optional minus and one or more digits, of a value that fits 128 bits with a sign. Leading
-- zeros and `-0` are allowed. (This project's own; Elektra's page on types has the ranges.)
use Rattle.std.specs.Prelude.{◌≡◌, ℕ, ◌-◌, ◌^◌, Bool, List, ◌∷◌, if◌then◌else◌, ℤ, pos, neg_ℤ, ◌≤ℤ◌}
use Rattle.std.specs.Str.Parse.{IsNumeral, digits_value}

-- a number from a lowest to a highest one, both of them too
pub record IsWithin (low high value : ℤ) : Type 0 where
  pub above : low ≤ℤ value
  pub below : value ≤ℤ high

abbrev pub lowest_number : ℤ
lowest_number = neg_ℤ (pos (2 ^ 127))

abbrev pub highest_number : ℤ
highest_number = pos (2 ^ 127 - 1)

-- some digits, behind a minus where there is one
abbrev pub with_sign : Bool → List ℕ → List ℕ
with_sign minus digits = if minus then 45 ∷ digits else digits

-- a number, below zero where there is a minus
abbrev pub signed : Bool → ℕ → ℤ
signed minus number = if minus then neg_ℤ (pos number) else pos number

-- one or more digits write a number, with or without a minus
pub record AreDigitsOf (minus : Bool) (digits : List ℕ) (value : ℤ) : Type 0 where
  pub numeral : IsNumeral 10 digits
  pub is : value ≡ signed minus (digits_value 10 digits)
  pub fits : IsWithin lowest_number highest_number value

-- a text is a number
pub record IsNumber (text : List ℕ) (value : ℤ) : Type 0 where
  pub minus : Bool
  pub digits : List ℕ
  pub spelled : text ≡ with_sign minus digits
  pub number : AreDigitsOf minus digits value
