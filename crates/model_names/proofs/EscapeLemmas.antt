-- What the escapes of a part leave as it is, and how escaped bytes are read.
use Rattle.std.proofs.Common.{◌≡◌, ◌≢◌, ℕ, ◌<◌, true, ◌==◌, ◌||◌, List, [], ◌∷◌, ◌++◌, length, get_or, Some, None, refl, sym, ap, ap₂, ◌∙◌, lit<, arith}
use Rattle.std.specs.List.{AllByRecursion, flat_map}
use Rattle.std.specs.Prelude.{encode_utf8, encode_utf8_all}
use Rattle.std.proofs.lemmas.Bool.{ne_eqb, or_from, cond-false}
use Rattle.std.proofs.lemmas.List.{append-nil, get_or_default}
use Rattle.std.proofs.lemmas.List.Elements.{recursion_from_All}
use Rattle.std.proofs.lemmas.List.Concat.{flat_map-append}
use Rattle.std.proofs.lemmas.Str.{encodes-append, inside_one, length-encode, len_utf8_bounds}
use Rattle.model_names.specs.Spelling.{escaped}
use Rattle.model_names.specs.Spells.{unescaped}
use Rattle.model_names.proofs.ReadLemmas.{unescaped_from, unescaped-escape, unescaped-plain}
use Rattle.model_names.proofs.RefusesLemmas.{from_map}

-- a byte that is spelled as it is
pub record IsUnescaped (b : ℕ) : Type 0 where
  pub no_backslash : b ≢ 92
  pub no_slash : b ≢ 47

escaped-same : (b : ℕ) → IsUnescaped b → escaped b ≡ b ∷ []
escaped-same b h = cond-false _ _ _ (or_from _ _ (ne_eqb b 92 h.no_backslash) (ne_eqb b 47 h.no_slash))

pub flat_map-escaped-same : (bytes : List ℕ) → AllByRecursion IsUnescaped bytes → flat_map escaped bytes ≡ bytes
flat_map-escaped-same [] h = refl
flat_map-escaped-same (b ∷ bytes) h =
    ap₂ (λ front rest. front ++ rest) (escaped-same b h.0) (flat_map-escaped-same bytes h.1)

-- a letter that has an ASCII byte at a place is that byte
letter_at : (c k b : ℕ) (d : ℕ) → k < length (encode_utf8 c) → b < 128 → get_or (encode_utf8 c) k d ≡ b → c ≡ b
letter_at c k b d lt small e =
    let at_zero : get_or (encode_utf8 c) k 0 ≡ b = get_or_default (encode_utf8 c) k 0 d lt ∙ e in
    inside_one c [] (encode_utf8 c) k (sym (append-nil (encode_utf8 c))) lt (rw at_zero small) ∙ at_zero

pub IsUnescaped-encode_utf8 : (c : ℕ) → c ≢ 92 → c ≢ 47 → AllByRecursion IsUnescaped (encode_utf8 c)
IsUnescaped-encode_utf8 c no_backslash no_slash =
    recursion_from_All IsUnescaped (encode_utf8 c) (λ k d lt. record {
      no_backslash = λ e. no_backslash (letter_at c k 92 d lt (lit< tt) e);
      no_slash = λ e. no_slash (letter_at c k 47 d lt (lit< tt) e);
    })

-- a letter that is neither a backslash nor a slash
pub flat_map-escaped-letter : (c : ℕ) → c ≢ 92 → c ≢ 47 → flat_map escaped (encode_utf8 c) ≡ encode_utf8 c
flat_map-escaped-letter c no_backslash no_slash =
    flat_map-escaped-same (encode_utf8 c) (IsUnescaped-encode_utf8 c no_backslash no_slash)

pub flat_map-escaped-push : (letters : List ℕ) (c : ℕ)
    → flat_map escaped (encode_utf8_all (letters ++ c ∷ []))
    ≡ flat_map escaped (encode_utf8_all letters) ++ flat_map escaped (encode_utf8 c)
flat_map-escaped-push letters c =
    ap (flat_map escaped) (encodes-append letters (c ∷ []))
    ∙ flat_map-append escaped (encode_utf8_all letters) (encode_utf8 c ++ [])
    ∙ ap (λ bytes. flat_map escaped (encode_utf8_all letters) ++ flat_map escaped bytes) (append-nil (encode_utf8 c))

-- ---- reading

letter_bytes : (c : ℕ) → 0 < length (encode_utf8 c)
letter_bytes c = let bounds = len_utf8_bounds c in omega (arith, length-encode c)

-- bytes without a backslash are read as they are
pub read_all : (bytes left : List ℕ) → AllByRecursion IsUnescaped bytes → (rest : List ℕ)
    → unescaped (bytes ++ left) ≡ Some rest → (tail : List ℕ) × (unescaped left ≡ Some tail) × (rest ≡ bytes ++ tail)
read_all [] left ordinary rest h = (rest, h, refl)
read_all (b ∷ bytes) left ordinary rest h =
    let plain = sym (unescaped-plain b (bytes ++ left) ordinary.0.no_backslash) ∙ h in
    let behind = from_map (λ part. b ∷ part) (unescaped (bytes ++ left)) rest plain in
    let tail = read_all bytes left ordinary.1 behind.0 behind.1 in
    (tail.0, tail.1, sym behind.2 ∙ ap (λ t. b ∷ t) tail.2)

-- a backslash waits for a byte that it can escape
escapes_none : (bytes left : List ℕ) → AllByRecursion IsUnescaped bytes → 0 < length bytes
    → unescaped_from true (bytes ++ left) ≡ None
escapes_none [] left ordinary h = absurd (omega arith)
escapes_none (b ∷ bytes) left ordinary h =
    unescaped-escape b (bytes ++ left)
    ∙ cond-false ((b == 92) || (b == 47)) _ _ (or_from _ _ (ne_eqb b 92 ordinary.0.no_backslash) (ne_eqb b 47 ordinary.0.no_slash))

-- no other letter can be escaped
pub escapes_no_letter : (c : ℕ) (left : List ℕ) → c ≢ 92 → c ≢ 47 → unescaped_from true (encode_utf8 c ++ left) ≡ None
escapes_no_letter c left no_backslash no_slash =
    escapes_none (encode_utf8 c) left (IsUnescaped-encode_utf8 c no_backslash no_slash) (letter_bytes c)
