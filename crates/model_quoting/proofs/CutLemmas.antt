-- Words that stand behind one another are told apart: a text in quotes ends at its last quote, and one without at the
-- next blank.
use Rattle.std.specs.Prelude.{◌≡◌, ◌≢◌, ℕ, ◌/◌, ◌%◌, ◌≤◌, ◌<◌, true, List, [], ◌∷◌, ◌++◌}
use Rattle.std.proofs.Common.{refl, sym, ap, ◌∙◌, inl, inr, arith, append_assoc}
use Rattle.std.specs.List.{flat_map, list_all}
use Rattle.std.proofs.lemmas.Bool.{cases_Bool, cond-true, cond-false, and_parts}
use Rattle.std.proofs.lemmas.Bool.Decides.{nat_tests}
use Rattle.model_quoting.proofs.AlikeLemmas.{first_quoted}
use Rattle.model_quoting.proofs.QuotedAs.{Bare, Escaped, Hexadecimal, QuotedAs, quoted_as}
use Rattle.model_quoting.specs.Quoted.{hex_digit, is_plain_byte, quoted, quoted_byte, shown_text}

-- a word as it stands on a line: without a byte that needs quotes, or in quotes
pub data IsWord (word : List ℕ) : Type 0 where
  Plain : list_all is_plain_byte word ≡ true → IsWord word
  InQuotes : (text : List ℕ) → word ≡ quoted text → IsWord word

-- what stands behind a word: nothing, a blank or a control byte
abbrev pub Ends : List ℕ → Type 0
Ends [] = Unit {0}
Ends (b ∷ rest) = b ≤ 32

plain_above : (b : ℕ) (rest : List ℕ) → list_all is_plain_byte (b ∷ rest) ≡ true → 32 < b
plain_above b rest plain =
    let first = (and_parts (is_plain_byte b) (list_all is_plain_byte rest) plain).0 in grind (arith, nat_tests)

plain_no_quote : (b : ℕ) (rest : List ℕ) → list_all is_plain_byte (b ∷ rest) ≡ true → b ≢ 34
plain_no_quote b rest plain quote =
    let first = (and_parts (is_plain_byte b) (list_all is_plain_byte rest) plain).0 in grind (arith, nat_tests)

-- no plain word goes on where another ends
goes_on : (b : ℕ) (word rest behind : List ℕ) → list_all is_plain_byte (b ∷ word) ≡ true → Ends behind
    → behind ≢ b ∷ (word ++ rest)
goes_on b word rest [] plain ends e = cc
goes_on b word rest (c ∷ behind) plain ends e =
    let same : c ≡ b = cc in let above = plain_above b word plain in omega arith

plain-cut : (a b xs ys : List ℕ) → list_all is_plain_byte a ≡ true → list_all is_plain_byte b ≡ true → Ends xs → Ends ys
    → a ++ xs ≡ b ++ ys → (a ≡ b) × (xs ≡ ys)
plain-cut [] [] xs ys p q f g e = (refl, e)
plain-cut [] (c ∷ b) xs ys p q f g e = absurd (goes_on c b ys xs q f e)
plain-cut (c ∷ a) [] xs ys p q f g e = absurd (goes_on c a xs ys p g (sym e))
plain-cut (c ∷ a) (d ∷ b) xs ys p q f g e =
    let first : c ≡ d = cc in
    let rest = plain-cut a b xs ys (and_parts (is_plain_byte c) (list_all is_plain_byte a) p).1 (and_parts (is_plain_byte d) (list_all is_plain_byte b) q).1 f g cc in
    let words : a ≡ b = rest.0 in (cc, rest.1)

no_quote : (c : ℕ) (xs ys : List ℕ) → c ≢ 34 → 34 ∷ xs ≢ c ∷ ys
no_quote c xs ys other e = other cc

-- no byte inside quotes is written as the quote that ends them
goes_on_inside : (b : ℕ) (xs ys : List ℕ) → 34 ∷ xs ≢ quoted_byte b ++ ys
goes_on_inside b xs ys same = by (quoted_as b)
  where
    by : QuotedAs b → ⊥
    by (Escaped letter _ e) = no_quote 92 xs (letter ∷ ys) (λ f. omega arith) (same ∙ ap (λ t. t ++ ys) e)
    by (Hexadecimal _ e) =
        no_quote 92 xs (120 ∷ hex_digit (b / 16) ∷ hex_digit (b % 16) ∷ ys) (λ f. omega arith) (same ∙ ap (λ t. t ++ ys) e)
    by (Bare p e) = no_quote b xs ys p.no_quote (same ∙ ap (λ t. t ++ ys) e)

inside-cut : (a b xs ys : List ℕ) → flat_map quoted_byte a ++ 34 ∷ xs ≡ flat_map quoted_byte b ++ 34 ∷ ys
    → (a ≡ b) × (xs ≡ ys)
inside-cut [] [] xs ys e = (refl, cc)
inside-cut [] (c ∷ b) xs ys e =
    absurd (goes_on_inside c xs (flat_map quoted_byte b ++ 34 ∷ ys) (e ∙ append_assoc (quoted_byte c) (flat_map quoted_byte b) (34 ∷ ys)))
inside-cut (c ∷ a) [] xs ys e =
    absurd (goes_on_inside c ys (flat_map quoted_byte a ++ 34 ∷ xs) (sym e ∙ append_assoc (quoted_byte c) (flat_map quoted_byte a) (34 ∷ xs)))
inside-cut (c ∷ a) (d ∷ b) xs ys e =
    let there = sym (append_assoc (quoted_byte c) (flat_map quoted_byte a) (34 ∷ xs)) ∙ e ∙ append_assoc (quoted_byte d) (flat_map quoted_byte b) (34 ∷ ys) in
    let first = first_quoted c d (flat_map quoted_byte a ++ 34 ∷ xs) (flat_map quoted_byte b ++ 34 ∷ ys) there in
    let rest = inside-cut a b xs ys first.1 in
    let letter : c ≡ d = first.0 in let letters : a ≡ b = rest.0 in (cc, rest.1)

-- whatever stands behind texts in quotes
pub quoted-cut : (a b xs ys : List ℕ) → quoted a ++ xs ≡ quoted b ++ ys → (a ≡ b) × (xs ≡ ys)
quoted-cut a b xs ys e =
    let inside : flat_map quoted_byte a ++ 34 ∷ xs ≡ flat_map quoted_byte b ++ 34 ∷ ys =
    let there : (flat_map quoted_byte a ++ 34 ∷ []) ++ xs ≡ (flat_map quoted_byte b ++ 34 ∷ []) ++ ys = cc in
    sym (append_assoc (flat_map quoted_byte a) (34 ∷ []) xs) ∙ there ∙ append_assoc (flat_map quoted_byte b) (34 ∷ []) ys in
    inside-cut a b xs ys inside

-- a plain word and one in quotes don't begin alike
unlike : (a b xs ys : List ℕ) → list_all is_plain_byte a ≡ true → Ends xs → a ++ xs ≢ quoted b ++ ys
unlike [] b [] ys plain ends e = cc
unlike [] b (c ∷ xs) ys plain ends e = let first : c ≡ 34 = cc in omega arith
unlike (c ∷ a) b xs ys plain ends e = let first : c ≡ 34 = cc in plain_no_quote c a plain first

-- words that end, and what stands behind them
pub word-cut : (a b xs ys : List ℕ) → IsWord a → IsWord b → Ends xs → Ends ys → a ++ xs ≡ b ++ ys → (a ≡ b) × (xs ≡ ys)
word-cut a b xs ys (Plain p) (Plain q) f g e = plain-cut a b xs ys p q f g e
word-cut a b xs ys (Plain p) (InQuotes t is) f g e = absurd (unlike a t xs ys p f (e ∙ ap (λ w. w ++ ys) is))
word-cut a b xs ys (InQuotes t is) (Plain q) f g e = absurd (unlike b t ys xs q g (sym e ∙ ap (λ w. w ++ xs) is))
word-cut a b xs ys (InQuotes s is) (InQuotes t are) f g e =
    let parts = quoted-cut s t xs ys (sym (ap (λ w. w ++ xs) is) ∙ e ∙ ap (λ w. w ++ ys) are) in
    (is ∙ ap quoted parts.0 ∙ sym are, parts.1)

pub shown_text-IsWord : (text : List ℕ) → IsWord (shown_text text)
shown_text-IsWord text =
    elim (cases_Bool (list_all is_plain_byte text)) [
      | inl plain ↦ Plain (ap (list_all is_plain_byte) (cond-true _ text (quoted text) plain) ∙ plain)
      | inr other ↦ InQuotes text (cond-false _ text (quoted text) other)
    ]

pub quoted-IsWord : (text : List ℕ) → IsWord (quoted text)
quoted-IsWord text = InQuotes text refl
