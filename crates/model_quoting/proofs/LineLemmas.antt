-- What is quoted or shown stands on one line.
use Rattle.std.specs.Prelude.{◌≡◌, ◌≢◌, ℕ, ◌/◌, ◌%◌, ◌<◌, ◌≤◌, true, List, [], ◌∷◌}
use Rattle.std.proofs.Common.{refl, ap, ◌∙◌, inl, inr, arith}
use Rattle.std.specs.List.{flat_map, list_all}
use Rattle.std.proofs.lemmas.Bool.{cases_Bool, cases_lt, cond-true, cond-false, and_from, and_parts}
use Rattle.std.proofs.lemmas.Bool.Decides.{nat_tests}
use Rattle.std.proofs.lemmas.List.Folds.{list_all-append}
use Rattle.model_quoting.proofs.QuotedAs.{Bare, Escaped, Hexadecimal, QuotedAs, quoted_as}
use Rattle.model_quoting.specs.Quoted.{hex_digit, is_line_byte, is_plain_byte, quoted, quoted_byte, shown_text}

line_byte : (b : ℕ) → 32 ≤ b → b ≢ 127 → is_line_byte b ≡ true
line_byte b above delete = grind (arith, nat_tests)

hex_digit-line : (n : ℕ) → n < 16 → is_line_byte (hex_digit n) ≡ true
hex_digit-line n small =
    elim (cases_lt n 10) [
      | inl p ↦ grind (arith, nat_tests)
      | inr p ↦ grind (arith, nat_tests)
    ]

-- tests of two bytes, one after the other
both : (b c : ℕ) → is_line_byte b ≡ true → is_line_byte c ≡ true → list_all is_line_byte (b ∷ c ∷ []) ≡ true
both b c p q = and_from (is_line_byte b) _ p (and_from (is_line_byte c) true q refl)

quoted_byte-line : (b : ℕ) → list_all is_line_byte (quoted_byte b) ≡ true
quoted_byte-line b = by (quoted_as b)
  where
    by : QuotedAs b → list_all is_line_byte (quoted_byte b) ≡ true
    by (Escaped letter h e) =
        ap (list_all is_line_byte) e
        ∙ both 92 letter refl (line_byte letter h.printed.0 (λ f. let small = h.printed.1 in omega arith))
    by (Hexadecimal small e) =
        ap (list_all is_line_byte) e
        ∙ both (hex_digit (b / 16)) (hex_digit (b % 16)) (hex_digit-line (b / 16) (omega arith)) (hex_digit-line (b % 16) (omega arith))
    by (Bare h e) =
        ap (list_all is_line_byte) e ∙ and_from (is_line_byte b) true (line_byte b h.no_control h.no_delete) refl

all_quoted-line : (text : List ℕ) → list_all is_line_byte (flat_map quoted_byte text) ≡ true
all_quoted-line [] = refl
all_quoted-line (b ∷ text) =
    list_all-append is_line_byte (quoted_byte b) (flat_map quoted_byte text)
    ∙ and_from _ _ (quoted_byte-line b) (all_quoted-line text)

pub quoted-line : (text : List ℕ) → list_all is_line_byte (quoted text) ≡ true
quoted-line text =
    list_all-append is_line_byte (flat_map quoted_byte text) (34 ∷ []) ∙ and_from _ _ (all_quoted-line text) refl

plain_byte-line : (b : ℕ) → is_plain_byte b ≡ true → is_line_byte b ≡ true
plain_byte-line b plain = grind (arith, nat_tests)

plain-line : (text : List ℕ) → list_all is_plain_byte text ≡ true → list_all is_line_byte text ≡ true
plain-line [] plain = refl
plain-line (b ∷ text) plain =
    let parts = and_parts (is_plain_byte b) (list_all is_plain_byte text) plain in
    and_from _ _ (plain_byte-line b parts.0) (plain-line text parts.1)

pub shown_text-line : (text : List ℕ) → list_all is_line_byte (shown_text text) ≡ true
shown_text-line text =
    elim (cases_Bool (list_all is_plain_byte text)) [
      | inl plain ↦ ap (list_all is_line_byte) (cond-true _ text (quoted text) plain) ∙ plain-line text plain
      | inr other ↦ ap (list_all is_line_byte) (cond-false _ text (quoted text) other) ∙ quoted-line text
    ]
