-- Sizes as they are written: digits at the front of some bytes.
use Rattle.std.proofs.Common.{◌≡◌, ℕ, ◌+◌, ◌-◌, ◌*◌, ◌<◌, ◌≤◌, true, false, List, [], ◌∷◌, ◌++◌, length, take, drop, get_or, refl, sym, ap, ap₂, subst, ◌∙◌, arith, ⊎_elim}
use Rattle.std.specs.Char.{is_ascii_digit, digit_value}
use Rattle.std.specs.Fmt.{decimal}
use Rattle.std.specs.Int.{IsInRange}
use Rattle.std.specs.List.{prefix_len, take_while}
use Rattle.std.specs.Str.Parse.{AllDigits, digits_value}
use Rattle.std.proofs.lemmas.Bool.{cond_both, cases_eq, cond-false, cond-true}
use Rattle.std.proofs.lemmas.Bool.Decides.{nat_tests}
use Rattle.std.proofs.lemmas.Str.Parse.{digit_from_value, digit_at, digits_value-take-le, numerals_by_value, tells_digits}
use Rattle.std.proofs.lemmas.List.{take_at, drop_at, take-append-drop}
use Rattle.std.proofs.Math.Nat.{le_trans, pow-le-pow_right}
use Rattle.model_dump.proofs.SpelledRecords.{decimal_digits}
use Rattle.std.proofs.lemmas.Int.Digits.{digits_value-lt, digits_value_more}
use Rattle.std.proofs.lemmas.Str.{digit_value_digit}
use Rattle.std.proofs.lemmas.Fmt.{decimal-digits_value, decimal_digit, decimal_nonempty, length-decimal-le, first_decimal}
use Rattle.std.proofs.lemmas.List.Sums.{take_while-cons}
use Rattle.model_dump.specs.Record.{size_limit}
use Rattle.dump_storage.specs.Pieces.{IsSizeLike, BeginsWithSize}

digit_from_test : (c : ℕ) → is_ascii_digit c ≡ true → digit_value c < 10
digit_from_test c h = grind (arith, nat_tests)

test_from_digit : (c : ℕ) → IsInRange 48 57 c → is_ascii_digit c ≡ true
test_from_digit c h = grind (arith, nat_tests)

-- the front that passes the test for digits is digits
AllDigits-take_while : (xs : List ℕ) → AllDigits 10 (take_while is_ascii_digit xs)
AllDigits-take_while [] = tt
AllDigits-take_while (x ∷ xs) =
    subst (AllDigits 10) (sym (take_while-cons is_ascii_digit x xs))
    (cond_both (is_ascii_digit x) (x ∷ take_while is_ascii_digit xs) [] (AllDigits 10) (λ yes. (digit_from_test x yes, AllDigits-take_while xs)) (λ _. tt))

pub AllDigits-front : (xs digits : List ℕ) → digits ≡ take_while is_ascii_digit xs → AllDigits 10 digits
AllDigits-front xs digits front = subst (AllDigits 10) (sym front) (AllDigits-take_while xs)

-- digits that a byte which is none ends are the front that passes
pub prefix_len-digits : (ds rest : List ℕ) (last : ℕ) → AllDigits 10 ds → is_ascii_digit last ≡ false
    → prefix_len is_ascii_digit (ds ++ (last ∷ rest)) ≡ length ds
prefix_len-digits [] rest last h ends = cond-false (is_ascii_digit last) _ 0 ends
prefix_len-digits (d ∷ ds) rest last h ends =
    cond-true (is_ascii_digit d) _ 0 (test_from_digit d (digit_from_value d h.0))
    ∙ omega (arith, prefix_len-digits ds rest last h.1 ends)

-- digits that are like a size have a small value
pub digits_value-small : (ds : List ℕ) → AllDigits 10 ds → length ds ≤ 7 → digits_value 10 ds < size_limit
digits_value-small ds digits few =
    le_trans (digits_value-lt 10 ds digits) (pow-le-pow_right {n = 10} (omega arith) few)

-- and are what is written for it
pub decimal-size : (ds : List ℕ) → AllDigits 10 ds → IsSizeLike ds → decimal (digits_value 10 ds) ≡ ds
decimal-size ds digits size =
    decimal-digits_value (numerals_by_value (AllDigits 10) tells_digits) ds digits size.some size.zero_alone (omega (arith, digits_value-small ds digits size.few))

first_digit : (n : ℕ) → n < size_limit → get_or (decimal n) 0 0 ≡ 48 → length (decimal n) ≡ 1
first_digit n small zero =
    ⊎_elim (λ e. ap (λ k. length (decimal k)) e ∙ ap length (decimal_digit 0 (omega arith))) (λ some. absurd (omega (arith, first_decimal n (omega arith) (omega arith)))) (cases_eq n 0)

-- a size is written like one
pub IsSizeLike-decimal : (n : ℕ) → n < size_limit → IsSizeLike (decimal n)
IsSizeLike-decimal n small = record {
  some = decimal_nonempty n (omega arith);
  few = length-decimal-le 7 n (omega arith) (omega arith) (omega arith);
  zero_alone = first_digit n small;
}

-- a size at the front is the digits there, and what stands behind it stands behind them
pub take_while-size : (bytes rest : List ℕ) (last size : ℕ) → is_ascii_digit last ≡ false
    → BeginsWithSize bytes last size rest
    → (take_while is_ascii_digit bytes ≡ decimal size) × (drop (prefix_len is_ascii_digit bytes) bytes ≡ last ∷ rest)
take_while-size bytes rest last size ends begins =
    let ds = decimal size in
    let whole = ds ++ (last ∷ rest) in
    let count : prefix_len is_ascii_digit bytes ≡ length ds =
    ap (prefix_len is_ascii_digit) begins.whole ∙ prefix_len-digits ds rest last (decimal_digits size begins.small) ends in (
      ap (take (prefix_len is_ascii_digit bytes)) begins.whole ∙ ap (λ n. take n whole) count ∙ take_at ds (last ∷ rest) (length ds) refl,
      ap (drop (prefix_len is_ascii_digit bytes)) begins.whole ∙ ap (λ n. drop n whole) count ∙ drop_at ds (last ∷ rest) (length ds) refl,
    )

-- digits that are like a size begin as the number that they write
pub BeginsWithSize-digits : (bytes digits rest : List ℕ) (last size : ℕ) → digits ≡ take_while is_ascii_digit bytes
    → IsSizeLike digits → size ≡ digits_value 10 digits → drop (prefix_len is_ascii_digit bytes) bytes ≡ last ∷ rest
    → BeginsWithSize bytes last size rest
BeginsWithSize-digits bytes digits rest last size front like is behind =
    let all = AllDigits-front bytes digits front in
    let written : decimal size ≡ digits = ap decimal is ∙ decimal-size digits all like in
    record {
      small = omega (arith, is, digits_value-small digits all like.few);
      whole = sym (take-append-drop (prefix_len is_ascii_digit bytes) bytes) ∙ ap₂ (λ front back. front ++ back) (sym (written ∙ front)) behind;
    }

-- a digit of a few digits, behind the number that those before it write
pub record AddsDigit (ds : List ℕ) (i n : ℕ) : Type 0 where
  pub is_digit : IsInRange 48 57 (get_or ds i 0)
  pub small : n < size_limit
  pub more : digits_value 10 (take (i + 1) ds) ≡ n * 10 + (get_or ds i 0 - 48)

pub AddsDigit-at : (ds : List ℕ) (i n : ℕ) → AllDigits 10 ds → length ds ≤ 7 → i < length ds
    → n ≡ digits_value 10 (take i ds) → AddsDigit ds i n
AddsDigit-at ds i n digits few at so_far =
    let digit = digit_at ds i digits at in
    record {
      is_digit = digit;
      small = omega (arith, so_far, digits_value-take-le 10 ds i (omega arith), digits_value-small ds digits few);
      more = omega (arith, digits_value_more 10 ds i at, so_far, digit_value_digit (get_or ds i 0) digit);
    }
