-- Array parts: their forms by lengths, and that none of them has an escape.
use Rattle.std.proofs.Common.{◌≡◌, ◌≢◌, ℕ, ◌+◌, ◌-◌, ◌≤◌, Bool, true, false, cond, ltb, ◌==◌, ◌&&◌, ◌||◌, List, [], ◌∷◌, length, Option, Some, None, option_and_then, is_none, codes, Result, Ok, Err, refl, sym, ap, ap₂, subst, ◌∙◌, inl, inr, arith}
use Rattle.std.specs.Option.{option_map, is_some}
use Rattle.std.specs.Result.{result_map_both, result_ok}
use Rattle.general_words.specs.Texts.{is_text}
use Rattle.general_words.proofs.Texts.{same_text}
use Rattle.general_words.proofs.Tests.{cond_some}
use Rattle.std.specs.Char.{is_ascii_digit}
use Rattle.std.specs.List.{AllByRecursion, list_all}
use Rattle.std.proofs.lemmas.Bool.{cond-true, cond-false, and_parts, and_left, or_cases, eqb-true, eq-eqb, ne_eqb, cases_Bool, cases_eq}
use Rattle.std.proofs.lemmas.List.{nil_from_length}
use Rattle.model_names.specs.Name.{Part}
use Rattle.model_names.specs.ArrayPart.{without_underscores, are_digits, is_array_like, digits_of, underscores_of, is_index, is_canonical, is_bare, part_of_digits, canonical_part}
use Rattle.model_names.specs.Spells.{Adds, part_of_text, read_letters, unescaped}
use Rattle.model_names.specs.Refuses.{bad_array}
use Rattle.model_names.proofs.ArrayLemmas.{digit_range, length-like, like_parts}
use Rattle.model_names.proofs.EscapeLemmas.{IsUnescaped}
use Rattle.model_names.proofs.ReadLemmas.{by_form, unescaped_from, unescaped-escape, unescaped-plain}
use Rattle.model_names.proofs.RefusesLemmas.{from_map}

-- ---- the forms of a part

pub digits_fit : (part : List ℕ) → is_array_like part ≡ true → length (digits_of part) + 1 ≤ length part
digits_fit part like = omega (arith, length-like part like)

-- the canonical form has as many underscores before its digits as leave the part twice as long as they are
pub canonical-lead : (part digits : List ℕ) → is_array_like part ≡ true → digits ≡ digits_of part
    → is_canonical part ≡ (is_index digits && (length part - length digits == length digits))
canonical-lead part digits like is =
    let count : underscores_of part + 1 ≡ length part - length digits = omega (arith, length-like part like, ap length is) in
    ap₂ (λ d n. is_index d && (n == length d)) (sym is) count

-- that of a part without underscores is the digits behind the sign
bare-lead : (part digits : List ℕ) → is_array_like part ≡ true → digits ≡ digits_of part
    → is_bare part ≡ (is_index digits && (length part - length digits == 1))
bare-lead part digits like is = ap₂ (λ i l. i && l) (ap is_index (sym is)) by
  where
    by : (underscores_of part == 0) ≡ (length part - length digits == 1)
    by = elim (cases_eq (underscores_of part) 0) [
      | inl none ↦ eq-eqb _ 0 none ∙ sym (eq-eqb _ 1 (omega (arith, length-like part like, ap length is, none)))
      | inr some ↦ ne_eqb _ 0 some ∙ sym (ne_eqb _ 1 (λ e. some (omega (arith, length-like part like, ap length is, e))))
    ]

pub form-lead : (part digits : List ℕ) → is_array_like part ≡ true → digits ≡ digits_of part
    → is_some (canonical_part part)
    ≡ (is_index digits && ((length part - length digits == 1) || (length part - length digits == length digits)))
form-lead part digits like is =
    by (is_canonical part || is_bare part)
    ∙ ap₂ (λ a b. a || b) (canonical-lead part digits like is) (bare-lead part digits like is)
    ∙ factor (is_index digits) (length part - length digits == length digits) (length part - length digits == 1)
  where
    by : (t : Bool) → is_some (cond t (Some (part_of_digits (digits_of part))) None) ≡ t
    by true = refl
    by false = refl

    factor : (i a b : Bool) → ((i && a) || (i && b)) ≡ (i && (b || a))
    factor true true true = refl
    factor true true false = refl
    factor true false true = refl
    factor true false false = refl
    factor false a b = refl

-- ---- what stands at the front

pub without_underscores-none : (bytes : List ℕ) → ((rest : List ℕ) → bytes ≢ 95 ∷ rest)
    → without_underscores bytes ≡ bytes
without_underscores-none [] h = refl
without_underscores-none (b ∷ bytes) h = cond-false (b == 95) _ _ (ne_eqb b 95 (λ e. h bytes (ap (λ b. b ∷ bytes) e)))

pub is_array_like-none : (part : List ℕ) → ((rest : List ℕ) → part ≢ 35 ∷ rest) → is_array_like part ≡ false
is_array_like-none [] h = refl
is_array_like-none (b ∷ bytes) h =
    and_left (b == 35) (are_digits (without_underscores bytes)) (ne_eqb b 35 (λ e. h bytes (ap (λ b. b ∷ bytes) e)))

-- ---- no escapes

as_it_is : (b : ℕ) (bytes : List ℕ) → b ≢ 92 → unescaped bytes ≡ Some bytes → unescaped (b ∷ bytes) ≡ Some (b ∷ bytes)
as_it_is b bytes other h = unescaped-plain b bytes other ∙ ap (option_map (λ part. b ∷ part)) h

digits_unescaped : (digits : List ℕ) → list_all is_ascii_digit digits ≡ true → unescaped digits ≡ Some digits
digits_unescaped [] h = refl
digits_unescaped (d ∷ digits) h =
    let both = and_parts (is_ascii_digit d) (list_all is_ascii_digit digits) h in
    let range = digit_range d both.0 in
    as_it_is d digits (λ e. omega (arith, range.1)) (digits_unescaped digits both.1)

bytes_unescaped : (bytes : List ℕ) → list_all is_ascii_digit (without_underscores bytes) ≡ true
    → unescaped bytes ≡ Some bytes
bytes_unescaped [] h = refl
bytes_unescaped (b ∷ bytes) h =
    elim (cases_Bool (b == 95)) [
      | inl e ↦ let score = eqb-true b 95 e in as_it_is b bytes (λ q. omega arith) (bytes_unescaped bytes (sym (ap (list_all is_ascii_digit) (cond-true (b == 95) (without_underscores bytes) (b ∷ bytes) e)) ∙ h))
      | inr e ↦ digits_unescaped (b ∷ bytes) (sym (ap (list_all is_ascii_digit) (cond-false (b == 95) (without_underscores bytes) (b ∷ bytes) e)) ∙ h)
    ]

-- a part that looks like an array's has no escapes
pub unescaped-array : (raw : List ℕ) → is_array_like raw ≡ true → unescaped raw ≡ Some raw
unescaped-array [] like = absurd cc
unescaped-array (b ∷ bytes) like =
    let parts = like_parts b bytes like in
    let sign = parts.0 in
    let digits = and_parts (ltb 0 (length (without_underscores bytes))) (list_all is_ascii_digit (without_underscores bytes)) parts.1 in
    as_it_is b bytes (λ q. omega arith) (bytes_unescaped bytes digits.1)

digits_ordinary : (digits : List ℕ) → list_all is_ascii_digit digits ≡ true → AllByRecursion IsUnescaped digits
digits_ordinary [] h = tt
digits_ordinary (d ∷ digits) h =
    let both = and_parts (is_ascii_digit d) (list_all is_ascii_digit digits) h in
    let range = digit_range d both.0 in
    (record { no_backslash = λ e. omega (arith, range.1); no_slash = λ e. omega (arith, range.0) }, digits_ordinary digits both.1)

bytes_ordinary : (bytes : List ℕ) → list_all is_ascii_digit (without_underscores bytes) ≡ true
    → AllByRecursion IsUnescaped bytes
bytes_ordinary [] h = tt
bytes_ordinary (b ∷ bytes) h =
    elim (cases_Bool (b == 95)) [
      | inl e ↦ let score = eqb-true b 95 e in (record { no_backslash = λ q. omega arith; no_slash = λ q. omega arith }, bytes_ordinary bytes (sym (ap (list_all is_ascii_digit) (cond-true (b == 95) (without_underscores bytes) (b ∷ bytes) e)) ∙ h))
      | inr e ↦ digits_ordinary (b ∷ bytes) (sym (ap (list_all is_ascii_digit) (cond-false (b == 95) (without_underscores bytes) (b ∷ bytes) e)) ∙ h)
    ]

-- a part that looks like an array's has no byte that is escaped
pub array_ordinary : (text : List ℕ) → is_array_like text ≡ true → AllByRecursion IsUnescaped text
array_ordinary [] like = tt
array_ordinary (b ∷ bytes) like =
    let parts = like_parts b bytes like in
    let sign = parts.0 in
    let digits = and_parts (ltb 0 (length (without_underscores bytes))) (list_all is_ascii_digit (without_underscores bytes)) parts.1 in
    (record { no_backslash = λ q. omega arith; no_slash = λ q. omega arith }, bytes_ordinary bytes digits.1)

-- a text without backslashes and slashes is unescaped from itself alone
from_itself : (raw text : List ℕ) → unescaped raw ≡ Some text → AllByRecursion IsUnescaped text → raw ≡ text
from_itself [] text h ordinary = cc
from_itself (b ∷ raw) text h ordinary =
    elim (cases_eq b 92) [
      | inl e ↦ let escaped = sym (ap (λ b. unescaped (b ∷ raw)) e) ∙ h in absurd (no_escape raw text escaped ordinary)
      | inr other ↦ let rest = from_map (λ part. b ∷ part) (unescaped raw) text (sym (unescaped-plain b raw other) ∙ h) in
          let same = from_itself raw rest.0 rest.1 (subst (λ (t : List ℕ). AllByRecursion IsUnescaped t) (sym rest.2) ordinary).1 in
          ap (λ r. b ∷ r) same ∙ rest.2
    ]
  where
    no_escape : (raw text : List ℕ) → unescaped_from true raw ≡ Some text → AllByRecursion IsUnescaped text → ⊥
    no_escape [] text h ordinary = absurd cc
    no_escape (c ∷ raw) text h ordinary =
        let escapes = cond_some ((c == 92) || (c == 47)) (option_map (λ part. c ∷ part) (unescaped raw)) text (sym (unescaped-escape c raw) ∙ h) in
        let rest = from_map (λ part. c ∷ part) (unescaped raw) text escapes.1 in
        let first = (subst (λ (t : List ℕ). AllByRecursion IsUnescaped t) (sym rest.2) ordinary).0 in
        elim (or_cases (c == 92) (c == 47) escapes.0) [ inl e ↦ first.no_backslash (eqb-true c 92 e) | inr e ↦ first.no_slash (eqb-true c 47 e) ]

-- what is unescaped from a raw part that does not look like an array's does not either
pub is_array_like-unescaped : (raw text : List ℕ) → unescaped raw ≡ Some text → is_array_like raw ≡ false
    → is_array_like text ≡ false
is_array_like-unescaped raw text h other =
    elim (cases_Bool (is_array_like text)) [
      | inl like ↦ let same = from_itself raw text h (array_ordinary text like) in let both = ap is_array_like same in absurd (cc)
      | inr e ↦ e
    ]

-- where two branches answer the same
pub either : {A : Type 0} (t : Bool) (x y z : A) → (t ≡ true → x ≡ z) → y ≡ z → cond t x y ≡ z
either true x y z f h = f refl
either false x y z f h = h

pub empty_text : (raw : List ℕ) → (length raw == 0) ≡ true → raw ≡ []
empty_text raw e = nil_from_length raw (eqb-true (length raw) 0 e)

-- a text is not empty
pub length_of_some : (raw : List ℕ) → raw ≢ [] → (length raw == 0) ≡ false
length_of_some [] h = absurd (h refl)
length_of_some (b ∷ raw) h = ne_eqb _ 0 (omega arith)

-- the literal parts and the reserved ones are none that looks like an array's
bad_array-letters : (place : ℕ) (raw : List ℕ)
    → bad_array (place, raw)
    ≡ option_and_then (λ text. cond (is_array_like text && is_none (canonical_part text)) (Some place) None) (unescaped raw)
bad_array-letters place raw =
    let told = λ (r : List ℕ). option_and_then (λ text. cond (is_array_like text && is_none (canonical_part text)) (Some place) None) (unescaped r) in
    let as_text = λ (text : List ℕ) (e : is_text raw text ≡ true). sym (ap told (same_text raw text e)) in
    by_form (λ r. option_and_then (λ move. cond (is_none move) (Some place) None) (result_ok r)) raw
    ∙ either ((length raw == 0) || is_text raw (codes ".")) _ _ _ (λ e. elim (or_cases (length raw == 0) (is_text raw (codes ".")) e) [ inl e ↦ sym (ap told (empty_text raw e)) | inr e ↦ as_text (codes ".") e ])
    (either (is_text raw (codes "..")) _ _ _ (as_text (codes ".."))
    (either (is_text raw (codes "%")) _ _ _ (as_text (codes "%"))
    (either (is_text raw (92 ∷ codes "%")) _ _ _ (as_text (92 ∷ codes "%"))
    (either (is_text raw (92 ∷ codes ".")) _ _ _ (as_text (92 ∷ codes "."))
    (either (is_text raw (92 ∷ codes "..")) _ _ _ (as_text (92 ∷ codes "..")) (by (read_letters raw)))))))
  where
    refused : (array : Bool) (o : Option Part) (text : Part)
        → cond (is_none (option_map Adds (cond array o (Some text)))) (Some place) None
        ≡ cond (array && is_none o) (Some place) None
    refused true None text = refl
    refused true (Some part) text = refl
    refused false o text = refl

    by : (letters : Result Part ℕ)
        → option_and_then (λ move. cond (is_none move) (Some place) None) (result_ok (result_map_both (λ text. option_map Adds (part_of_text text)) (λ at. at) letters))
        ≡ option_and_then (λ text. cond (is_array_like text && is_none (canonical_part text)) (Some place) None) (result_ok letters)
    by (Ok text) = refused (is_array_like text) (canonical_part text) text
    by (Err at) = refl

-- so a bad array is told by the raw part itself
pub bad_array-raw : (place : ℕ) (raw : List ℕ)
    → bad_array (place, raw) ≡ cond (is_array_like raw && is_none (canonical_part raw)) (Some place) None
bad_array-raw place raw = bad_array-letters place raw ∙ by (unescaped raw) refl (is_array_like raw) refl
  where
    by : (o : Option Part) → unescaped raw ≡ o → (like : Bool) → is_array_like raw ≡ like
        → option_and_then (λ text. cond (is_array_like text && is_none (canonical_part text)) (Some place) None) (unescaped raw)
        ≡ cond (is_array_like raw && is_none (canonical_part raw)) (Some place) None
    by o e true like =
        ap (option_and_then (λ text. cond (is_array_like text && is_none (canonical_part text)) (Some place) None)) (unescaped-array raw like)
    by None e false like =
        ap (option_and_then (λ text. cond (is_array_like text && is_none (canonical_part text)) (Some place) None)) e
        ∙ sym (cond-false _ _ _ (and_left (is_array_like raw) (is_none (canonical_part raw)) like))
    by (Some text) e false like =
        ap (option_and_then (λ text. cond (is_array_like text && is_none (canonical_part text)) (Some place) None)) e
        ∙ cond-false _ _ _ (and_left (is_array_like text) (is_none (canonical_part text)) (is_array_like-unescaped raw text e like))
        ∙ sym (cond-false _ _ _ (and_left (is_array_like raw) (is_none (canonical_part raw)) like))
