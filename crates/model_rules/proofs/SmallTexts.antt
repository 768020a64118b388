-- Numbers and ranges at concrete texts.
use Rattle.std.specs.Prelude.{◌≡◌, ℕ, ◌<◌, Bool, true, List, [], ◌∷◌, ◌++◌, length}
use Rattle.std.specs.List.{AllZip}
use Rattle.std.specs.Str.{all_ascii_digits}
use Rattle.std.specs.Str.Parse.{AllDigits, digits_value}
use Rattle.std.proofs.Common.{refl, ap, ◌∙◌}
use Rattle.std.proofs.lemmas.Str.Parse.{numerals_by_value, tells_all_ascii_digits}
use Rattle.model_rules.specs.Number.{IsNumber, IsWithin, lowest_number, highest_number, signed, with_sign}
use Rattle.model_rules.specs.Range.{IsItem, Single, Between}
use Rattle.model_rules.specs.declared.intervals.Interval.{Interval}
use Rattle.model_rules.proofs.RangeOnce.{IsNumber-front}

digits_from_test : (digits : List ℕ) → all_ascii_digits digits ≡ true → AllDigits 10 digits
digits_from_test = (numerals_by_value (λ ds. all_ascii_digits ds ≡ true) tells_all_ascii_digits).to

-- a number, by its digits
pub number_by_test : (minus : Bool) (digits : List ℕ) → all_ascii_digits digits ≡ true → 0 < length digits
    → IsWithin lowest_number highest_number (signed minus (digits_value 10 digits))
    → IsNumber (with_sign minus digits) (signed minus (digits_value 10 digits))
number_by_test minus digits test some within = record {
  minus = minus;
  digits = digits;
  spelled = refl;
  number = record { numeral = (some, digits_from_test digits test); is = refl; fits = within };
}

-- the empty text is no item
pub no_empty_item : (interval : Interval) → IsItem [] interval → ⊥
no_empty_item interval (Single l h) =
    let front = IsNumber-front [] interval.low l in let e : [] ≡ front.first ∷ front.rest = front.whole in absurd cc
no_empty_item interval (Between first last e f g o) =
    let front = IsNumber-front first interval.low f in
    let whole : [] ≡ front.first ∷ (front.rest ++ (45 ∷ last)) = e ∙ ap (λ t. t ++ (45 ∷ last)) front.whole in
    absurd cc

-- one item that is none is in no range
pub no_first : (item : List ℕ) (items : List (List ℕ)) (intervals : List Interval)
    → ((interval : Interval) → IsItem item interval → ⊥) → AllZip IsItem (item ∷ items) intervals → ⊥
no_first item items [] none zip = zip
no_first item items (interval ∷ intervals) none zip = none interval zip.0

pub no_second : (first item : List ℕ) (items : List (List ℕ)) (intervals : List Interval)
    → ((interval : Interval) → IsItem item interval → ⊥) → AllZip IsItem (first ∷ item ∷ items) intervals → ⊥
no_second first item items [] none zip = zip
no_second first item items (interval ∷ intervals) none zip = no_first item items intervals none zip.1
