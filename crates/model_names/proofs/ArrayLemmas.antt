-- Array parts: a part that looks like an array's is made of underscores and digits, and its canonical form is that of
-- its index.
use Rattle.std.specs.Prelude.{◌≡◌, ◌≢◌, ℕ, ◌+◌, ◌-◌, ◌^◌, ◌<◌, ◌≤◌, ◌⊎◌, nat_lt, nat_le, true, false, not, ◌&&◌, ◌||◌, ◌==◌, List, [], ◌∷◌, ◌++◌, length, replicate, Option, Some, None}
use Rattle.std.proofs.Common.{zero, suc, get_or, refl, sym, ap, ap₂, ◌∙◌, inl, inr, arith, lit<, length-append}
use Rattle.std.specs.Char.{is_ascii_digit}
use Rattle.std.specs.Fmt.{decimal}
use Rattle.std.specs.Int.{IsInRange}
use Rattle.std.specs.List.{AllByRecursion, list_all}
use Rattle.std.specs.Str.Parse.{digits_value}
use Rattle.std.proofs.lemmas.Bool.{cond_both, cond-true, cond-false, and_from, and_parts, le-leb, leb-true, ltb-true, ltb-false, lt-ltb, ne_eqb, eq-eqb, eqb-true, or_left, or_cases, cases_Bool, not-true, not_from_false}
use Rattle.std.proofs.lemmas.Fmt.{decimal_is_IsNumeral, decimal-digits_value, decimal_digit, first_decimal}
use Rattle.std.proofs.lemmas.List.{length-replicate}
use Rattle.std.proofs.lemmas.Str.Parse.{IsDigitsTest, IsNumeralModel, numerals_by_value, digit_at}
use Rattle.general_words.proofs.Tests.{cond_some}
use Rattle.model_names.specs.Name.{Part}
use Rattle.model_names.specs.ArrayPart.{last_index, without_underscores, are_digits, is_array_like, digits_of, underscores_of, has_leading_zero, is_index, is_canonical, is_bare, IsArrayPart, part_of_digits, array_part, canonical_part}

-- ---- digits

pub digit_range : (c : ℕ) → is_ascii_digit c ≡ true → IsInRange 48 57 c
digit_range c h = let parts = and_parts (nat_le 48 c) (nat_le c 57) h in (leb-true 48 c parts.0, leb-true c 57 parts.1)

tells_ascii_digits : IsDigitsTest (λ ds. list_all is_ascii_digit ds ≡ true)
tells_ascii_digits = record {
  empty = refl;
  parts = λ c cs h. let both = and_parts (is_ascii_digit c) (list_all is_ascii_digit cs) h in (digit_range c both.0, both.1);
  more = λ c cs range h. and_from (is_ascii_digit c) (list_all is_ascii_digit cs) (and_from (nat_le 48 c) (nat_le c 57) (le-leb 48 c range.0) (le-leb c 57 range.1)) h;
}

pub ascii_digits : IsNumeralModel (λ ds. list_all is_ascii_digit ds ≡ true) (digits_value 10)
ascii_digits = numerals_by_value _ tells_ascii_digits

-- no digit is an underscore
first_digit : (digits : List ℕ) → are_digits digits ≡ true → get_or digits 0 0 ≢ 95
first_digit [] h = absurd cc
first_digit (d ∷ digits) h =
    λ e. let range = digit_range d (and_parts (is_ascii_digit d) _ (and_parts (nat_lt 0 (length (d ∷ digits))) _ h).1).0 in omega (arith, range.1, e)

pub some_digits : (digits : List ℕ) → are_digits digits ≡ true → 0 < length digits
some_digits digits h = ltb-true 0 (length digits) (and_parts (nat_lt 0 (length digits)) _ h).0

digit_bytes : (digits : List ℕ) → list_all is_ascii_digit digits ≡ true
    → AllByRecursion (λ b. (0 < b) × (b < 128)) digits
digit_bytes [] h = tt
digit_bytes (d ∷ digits) h =
    let both = and_parts (is_ascii_digit d) (list_all is_ascii_digit digits) h in
    let range = digit_range d both.0 in
    ((omega (arith, range.0), omega (arith, range.1)), digit_bytes digits both.1)

-- ---- underscores

without_underscores-leads : (n : ℕ) (digits : List ℕ) → get_or digits 0 0 ≢ 95
    → without_underscores (replicate n 95 ++ digits) ≡ digits
without_underscores-leads zero [] h = refl
without_underscores-leads zero (d ∷ digits) h = cond-false (d == 95) _ _ (ne_eqb d 95 h)
without_underscores-leads (suc n) digits h = without_underscores-leads n digits h

-- how many underscores stand before some digits
record Leads (bytes digits : List ℕ) : Type 0 where
  count : ℕ
  split : bytes ≡ replicate count 95 ++ digits

leads_all : (bytes : List ℕ) → Leads bytes (without_underscores bytes)
leads_all [] = record { count = 0; split = refl }
leads_all (b ∷ bytes) =
    let rest = leads_all bytes in
    cond_both (b == 95) (without_underscores bytes) (b ∷ bytes) (λ digits. Leads (b ∷ bytes) digits)
    (λ e. record { count = suc rest.count; split = ap₂ (λ b bytes. b ∷ bytes) (eqb-true b 95 e) rest.split })
    (λ _. record { count = 0; split = refl })

length-leads : (bytes digits : List ℕ) (l : Leads bytes digits) → length bytes ≡ l.count + length digits
length-leads bytes digits l =
    ap length l.split ∙ length-append (replicate l.count 95) digits
    ∙ ap (λ n. n + length digits) (length-replicate l.count 95)

pub like_parts : (b : ℕ) (bytes : List ℕ) → is_array_like (b ∷ bytes) ≡ true
    → (b ≡ 35) × (are_digits (without_underscores bytes) ≡ true)
like_parts b bytes h =
    let parts = and_parts (b == 35) (are_digits (without_underscores bytes)) h in (eqb-true b 35 parts.0, parts.1)

-- the digits of a part that looks like an array's
pub are_digits-like : (part : Part) → is_array_like part ≡ true → are_digits (digits_of part) ≡ true
are_digits-like [] like = absurd cc
are_digits-like (b ∷ bytes) like = (like_parts b bytes like).1

-- its bytes are the sign, the underscores and the digits
pub length-like : (part : Part) → is_array_like part ≡ true
    → length part ≡ 1 + underscores_of part + length (digits_of part)
length-like [] like = absurd cc
length-like (b ∷ bytes) like =
    let total = length-leads bytes (without_underscores bytes) (leads_all bytes) in omega (arith, total)

-- ---- the part of an index's digits

length-part_of_digits : (digits : List ℕ) → length (part_of_digits digits) ≡ 1 + (length digits - 1) + length digits
length-part_of_digits digits =
    omega (arith, length-append (replicate (length digits - 1) 95) digits, length-replicate {A = ℕ} (length digits - 1) 95)

pub digits_of-part_of_digits : (digits : List ℕ) → are_digits digits ≡ true → digits_of (part_of_digits digits) ≡ digits
digits_of-part_of_digits digits h = without_underscores-leads (length digits - 1) digits (first_digit digits h)

pub is_array_like-part_of_digits : (digits : List ℕ) → are_digits digits ≡ true
    → is_array_like (part_of_digits digits) ≡ true
is_array_like-part_of_digits digits h = ap are_digits (digits_of-part_of_digits digits h) ∙ h

pub is_canonical-part_of_digits : (digits : List ℕ) → are_digits digits ≡ true → is_index digits ≡ true
    → is_canonical (part_of_digits digits) ≡ true
is_canonical-part_of_digits digits h index =
    let own = digits_of-part_of_digits digits h in
    let count : underscores_of (part_of_digits digits) + 1 ≡ length (digits_of (part_of_digits digits)) = omega (arith, some_digits digits h, ap length own, length-part_of_digits digits) in
    and_from (is_index (digits_of (part_of_digits digits))) _ (ap is_index own ∙ index) (eq-eqb _ _ count)

lead_bytes : (n : ℕ) (digits : List ℕ) → AllByRecursion (λ b. (0 < b) × (b < 128)) digits
    → AllByRecursion (λ b. (0 < b) × (b < 128)) (replicate n 95 ++ digits)
lead_bytes zero digits h = h
lead_bytes (suc n) digits h = ((lit< tt, lit< tt), lead_bytes n digits h)

-- its bytes are ASCII
pub ascii-part_of_digits : (digits : List ℕ) → are_digits digits ≡ true
    → AllByRecursion (λ b. (0 < b) × (b < 128)) (part_of_digits digits)
ascii-part_of_digits digits h =
    ((lit< tt, lit< tt), lead_bytes (length digits - 1) digits (digit_bytes digits (and_parts (nat_lt 0 (length digits)) _ h).1))

-- ---- canonical parts

underscores_own : (part : Part) → is_canonical part ≡ true → underscores_of part + 1 ≡ length (digits_of part)
underscores_own part h = eqb-true _ _ (and_parts (is_index (digits_of part)) _ h).1

full_bytes : (bytes : List ℕ)
    → length bytes + 1 ≡ length (without_underscores bytes) + length (without_underscores bytes)
    → 35 ∷ bytes ≡ part_of_digits (without_underscores bytes)
full_bytes bytes full =
    let digits = without_underscores bytes in
    let leads = leads_all bytes in
    let total = length-leads bytes digits leads in
    let count : leads.count ≡ length digits - 1 = omega arith in
    ap (λ b. 35 ∷ b) (leads.split ∙ ap (λ n. replicate n 95 ++ digits) count)

-- a canonical part is that of its digits
pub canonical_is_own : (part : Part) → is_array_like part ≡ true → is_canonical part ≡ true
    → part ≡ part_of_digits (digits_of part)
canonical_is_own [] like h = absurd cc
canonical_is_own (b ∷ bytes) like h =
    ap (λ b. b ∷ bytes) (like_parts b bytes like).0
    ∙ full_bytes bytes (omega (arith, length-like (b ∷ bytes) like, underscores_own (b ∷ bytes) h))

pub canonical_part-own : (part : Part) → is_array_like part ≡ true → is_canonical part ≡ true
    → canonical_part part ≡ Some part
canonical_part-own part like h =
    cond-true (is_canonical part || is_bare part) _ None (or_left (is_canonical part) (is_bare part) h)
    ∙ ap (λ p. Some p) (sym (canonical_is_own part like h))

-- what an array-like part stands for
pub record StandsFor (part canonical : Part) : Type 0 where
  pub index : is_index (digits_of part) ≡ true
  pub is : canonical ≡ part_of_digits (digits_of part)

pub canonical_part-from : (part canonical : Part) → canonical_part part ≡ Some canonical → StandsFor part canonical
canonical_part-from part canonical h =
    let chosen = cond_some (is_canonical part || is_bare part) (Some (part_of_digits (digits_of part))) canonical h in
    record {
      index = elim (or_cases (is_canonical part) (is_bare part) chosen.0) [ inl e ↦ (and_parts (is_index (digits_of part)) _ e).0 | inr e ↦ (and_parts (is_index (digits_of part)) _ e).0 ];
      is = sym (some_part _ canonical chosen.1);
    }
  where
    some_part : (a b : Part) → ◌≡◌ {A = Option Part} (Some a) (Some b) → a ≡ b
    some_part a b e = cc

-- ---- the index

one_zero : (ds : List ℕ) → decimal (digits_value 10 ds) ≡ ds → digits_value 10 ds < 2 ^ 64 → get_or ds 0 0 ≡ 48
    → length ds ≡ 1
one_zero ds spelled small zero_first =
    elim (cases_zero (digits_value 10 ds)) [
      | inl none ↦ ap length (sym spelled ∙ ap decimal none ∙ decimal_digit 0 (lit< tt))
      | inr some ↦ let first = first_decimal (digits_value 10 ds) some small in let same = ap (λ t. get_or t 0 0) spelled in absurd (omega arith)
    ]
  where
    cases_zero : (n : ℕ) → (n ≡ 0) ⊎ (0 < n)
    cases_zero zero = inl refl
    cases_zero (suc n) = inr (omega arith)

-- digits that are an index are its decimal
index_spelled : (ds : List ℕ) → are_digits ds ≡ true → is_index ds ≡ true
    → (digits_value 10 ds ≤ last_index) × (decimal (digits_value 10 ds) ≡ ds)
index_spelled ds digits index =
    let tests = and_parts (not (has_leading_zero ds)) _ index in
    let within = leb-true (digits_value 10 ds) last_index tests.1 in
    let small : digits_value 10 ds < 2 ^ 64 = omega (arith, within) in
    let bytes = (and_parts (nat_lt 0 (length ds)) _ digits).1 in
    (within, decimal-digits_value ascii_digits ds bytes (some_digits ds digits) (λ e. by e (length ds) (some_digits ds digits) (not-true _ tests.0)) small)
  where
    by : get_or ds 0 0 ≡ 48 → (n : ℕ) → 0 < n → (nat_lt 1 n && (get_or ds 0 0 == 48)) ≡ false → n ≡ 1
    by e n some h =
        elim (cases_Bool (nat_lt 1 n)) [
          | inl lt ↦ let both = and_from (nat_lt 1 n) (get_or ds 0 0 == 48) lt (eq-eqb _ 48 e) in absurd (cc)
          | inr le ↦ let most = ltb-false 1 n le in omega arith
        ]

-- and the decimal of an index is such
pub index_decimal : (index : ℕ) → index ≤ last_index
    → (are_digits (decimal index) ≡ true) × (is_index (decimal index) ≡ true)
index_decimal index within =
    let small : index < 2 ^ 64 = omega (arith, within) in
    let numeral = decimal_is_IsNumeral index small in
    let spelled : decimal (digits_value 10 (decimal index)) ≡ decimal index = ap decimal numeral.1 in
    let few : digits_value 10 (decimal index) < 2 ^ 64 = omega (arith, small, numeral.1) in (
      and_from (nat_lt 0 (length (decimal index))) _ (lt-ltb _ _ numeral.0.0) (all_digits (decimal index) (λ k lt. digit_at (decimal index) k numeral.0.1 lt)),
      and_from (not (has_leading_zero (decimal index))) _
          (not_from_false _ (no_zero (decimal index) (one_zero (decimal index) spelled few)))
          (ap (λ n. nat_le n last_index) numeral.1 ∙ le-leb index last_index within),
    )
  where
    all_digits : (ds : List ℕ) → ((k : ℕ) → k < length ds → IsInRange 48 57 (get_or ds k 0))
        → list_all is_ascii_digit ds ≡ true
    all_digits [] h = refl
    all_digits (d ∷ ds) h =
        let range = h 0 (omega arith) in
        and_from (is_ascii_digit d) _ (and_from (nat_le 48 d) (nat_le d 57) (le-leb 48 d range.0) (le-leb d 57 range.1)) (all_digits ds (λ k lt. h (suc k) (omega (arith, lt))))

    no_zero : (ds : List ℕ) → (get_or ds 0 0 ≡ 48 → length ds ≡ 1) → has_leading_zero ds ≡ false
    no_zero ds one =
        elim (cases_Bool (has_leading_zero ds)) [
          | inl e ↦ let parts = and_parts (nat_lt 1 (length ds)) _ e in let more = ltb-true 1 (length ds) parts.0 in let single = one (eqb-true (get_or ds 0 0) 48 parts.1) in absurd (omega arith)
          | inr e ↦ e
        ]

-- a part stands for an item of an array exactly where it is the part of an index
pub IsArrayPart-index : (part : Part) → IsArrayPart part
    → (index : ℕ) × (index ≤ last_index) × (part ≡ array_part index)
IsArrayPart-index part is =
    let tests = and_parts (is_array_like part) (is_canonical part) is in
    let digits = digits_of part in
    let spelled = index_spelled digits (are_digits-like part tests.0) (and_parts (is_index digits) _ tests.1).0 in
    (digits_value 10 digits, spelled.0, canonical_is_own part tests.0 tests.1 ∙ ap part_of_digits (sym spelled.1))

pub IsArrayPart-array_part : (index : ℕ) → index ≤ last_index → IsArrayPart (array_part index)
IsArrayPart-array_part index within =
    let tests = index_decimal index within in
    and_from (is_array_like (array_part index)) _ (is_array_like-part_of_digits (decimal index) tests.0) (is_canonical-part_of_digits (decimal index) tests.0 tests.1)

-- ---- different indexes have different parts

-- the number that the digits of a part write
abbrev index_of : Part → ℕ
index_of part = digits_value 10 (digits_of part)

index_of-array_part : (index : ℕ) → index ≤ last_index → index_of (array_part index) ≡ index
index_of-array_part index within =
    let small : index < 2 ^ 64 = omega (arith, within) in
    ap (digits_value 10) (digits_of-part_of_digits (decimal index) ((index_decimal index within).0))
    ∙ (decimal_is_IsNumeral index small).1

pub array_part-once : (i j : ℕ) → i ≤ last_index → j ≤ last_index → array_part i ≡ array_part j → i ≡ j
array_part-once i j p q e = sym (index_of-array_part i p) ∙ ap index_of e ∙ index_of-array_part j q
