-- Different texts are quoted and shown differently.
use Rattle.std.specs.Prelude.{◌≡◌, ◌≢◌, ℕ, ◌/◌, ◌%◌, true, List, [], ◌∷◌, ◌++◌}
use Rattle.std.proofs.Common.{refl, sym, ap, ◌∙◌, inl, inr, arith}
use Rattle.std.specs.List.{flat_map, list_all}
use Rattle.std.proofs.lemmas.Bool.{cases_Bool, cases_lt, cond-true, cond-false, true≢false}
use Rattle.std.proofs.lemmas.Bool.Decides.{nat_tests}
use Rattle.std.proofs.lemmas.List.{append_cancel_right}
use Rattle.model_names.specs.Name.{Name}
use Rattle.model_names.specs.Spelling.{spelling}
use Rattle.model_names.specs.WellFormed.{IsName}
use Rattle.model_names.proofs.NameLemmas.{one_spelling}
use Rattle.model_quoting.proofs.QuotedAs.{Bare, Escaped, Hexadecimal, QuotedAs, byte_of, in_hexadecimal, quoted_as}
use Rattle.model_quoting.specs.Quoted.{hex_digit, is_plain_byte, quoted, quoted_byte, shown, shown_text}

hex_digit-once : (m n : ℕ) → hex_digit m ≡ hex_digit n → m ≡ n
hex_digit-once m n e =
    elim (cases_lt m 10) [
      | inl p ↦ elim (cases_lt n 10) [ inl q ↦ grind (arith, nat_tests) | inr q ↦ grind (arith, nat_tests) ]
      | inr p ↦ elim (cases_lt n 10) [ inl q ↦ grind (arith, nat_tests) | inr q ↦ grind (arith, nat_tests) ]
    ]

same_digits : (a b : ℕ) → a / 16 ≡ b / 16 → a % 16 ≡ b % 16 → a ≡ b
same_digits a b e f = omega arith

-- the first byte of a quoted text and the rest are its own
pub first_quoted : (a b : ℕ) (xs ys : List ℕ) → quoted_byte a ++ xs ≡ quoted_byte b ++ ys → (a ≡ b) × (xs ≡ ys)
first_quoted a b xs ys same = by (quoted_as a) (quoted_as b)
  where
    at : (p q : List ℕ) → quoted_byte a ≡ p → quoted_byte b ≡ q → p ++ xs ≡ q ++ ys
    at p q e f = sym (ap (λ t. t ++ xs) e) ∙ same ∙ ap (λ t. t ++ ys) f

    by : QuotedAs a → QuotedAs b → (a ≡ b) × (xs ≡ ys)
    by (Escaped letter p e) (Escaped other q f) =
        let h = at (92 ∷ letter ∷ []) (92 ∷ other ∷ []) e f in
        let letters : letter ≡ other = cc in
        (p.is ∙ ap byte_of letters ∙ sym q.is, cc)
    by (Escaped letter p e) (Hexadecimal _ f) =
        let h = at (92 ∷ letter ∷ []) (in_hexadecimal b) e f in absurd (p.no_hexadecimal cc)
    by (Escaped letter _ e) (Bare q f) = let h = at (92 ∷ letter ∷ []) (b ∷ []) e f in absurd (q.no_backslash cc)
    by (Hexadecimal _ e) (Escaped other q f) =
        let h = at (in_hexadecimal a) (92 ∷ other ∷ []) e f in absurd (q.no_hexadecimal cc)
    by (Hexadecimal _ e) (Hexadecimal _ f) =
        let h = at (in_hexadecimal a) (in_hexadecimal b) e f in
        (same_digits a b (hex_digit-once (a / 16) (b / 16) cc) (hex_digit-once (a % 16) (b % 16) cc), cc)
    by (Hexadecimal _ e) (Bare q f) = let h = at (in_hexadecimal a) (b ∷ []) e f in absurd (q.no_backslash cc)
    by (Bare p e) (Escaped other _ f) = let h = at (a ∷ []) (92 ∷ other ∷ []) e f in absurd (p.no_backslash cc)
    by (Bare p e) (Hexadecimal _ f) = let h = at (a ∷ []) (in_hexadecimal b) e f in absurd (p.no_backslash cc)
    by (Bare _ e) (Bare _ f) = let h = at (a ∷ []) (b ∷ []) e f in (cc, cc)

-- no byte is quoted as nothing
some_quoted : (b : ℕ) (xs : List ℕ) → [] ≢ quoted_byte b ++ xs
some_quoted b xs same = by (quoted_as b)
  where
    at : (p : List ℕ) → quoted_byte b ≡ p → [] ≡ p ++ xs
    at p e = same ∙ ap (λ t. t ++ xs) e

    by : QuotedAs b → ⊥
    by (Escaped letter _ e) = let h = at (92 ∷ letter ∷ []) e in cc
    by (Hexadecimal _ e) = let h = at (in_hexadecimal b) e in cc
    by (Bare _ e) = let h = at (b ∷ []) e in cc

all_quoted-once : (a b : List ℕ) → flat_map quoted_byte a ≡ flat_map quoted_byte b → a ≡ b
all_quoted-once [] [] e = refl
all_quoted-once [] (y ∷ b) e = absurd (some_quoted y (flat_map quoted_byte b) e)
all_quoted-once (x ∷ a) [] e = absurd (some_quoted x (flat_map quoted_byte a) (sym e))
all_quoted-once (x ∷ a) (y ∷ b) e =
    let h = first_quoted x y (flat_map quoted_byte a) (flat_map quoted_byte b) e in
    let first : x ≡ y = h.0 in let rest : a ≡ b = all_quoted-once a b h.1 in cc

-- texts that are quoted alike are one
pub quoted-once : (a b : List ℕ) → quoted a ≡ quoted b → a ≡ b
quoted-once a b e =
    let inside : flat_map quoted_byte a ++ 34 ∷ [] ≡ flat_map quoted_byte b ++ 34 ∷ [] = cc in
    all_quoted-once a b (append_cancel_right (flat_map quoted_byte a) (flat_map quoted_byte b) (34 ∷ []) inside)

-- a text without quotes is no quoted text
plain_is_unquoted : (a b : List ℕ) → list_all is_plain_byte a ≡ true → a ≢ quoted b
plain_is_unquoted a b plain e = true≢false (sym plain ∙ ap (list_all is_plain_byte) e)

-- texts that are shown alike are one
pub shown_text-once : (a b : List ℕ) → shown_text a ≡ shown_text b → a ≡ b
shown_text-once a b e =
    elim (cases_Bool (list_all is_plain_byte a)) [
      | inl p ↦ elim (cases_Bool (list_all is_plain_byte b)) [
        | inl q ↦ sym (cond-true _ a (quoted a) p) ∙ e ∙ cond-true _ b (quoted b) q
        | inr q ↦ absurd (plain_is_unquoted a b p (sym (cond-true _ a (quoted a) p) ∙ e ∙ cond-false _ b (quoted b) q))
      ]
      | inr p ↦ elim (cases_Bool (list_all is_plain_byte b)) [
        | inl q ↦ absurd (plain_is_unquoted b a q (sym (cond-true _ b (quoted b) q) ∙ sym e ∙ cond-false _ a (quoted a) p))
        | inr q ↦ quoted-once a b (sym (cond-false _ a (quoted a) p) ∙ e ∙ cond-false _ b (quoted b) q)
      ]
    ]

-- well-formed names that are shown alike are one
pub shown-once : (a b : Name) → IsName a → IsName b → shown a ≡ shown b → a ≡ b
shown-once a b p q e = one_spelling a b p q (shown_text-once (spelling a) (spelling b) e)
