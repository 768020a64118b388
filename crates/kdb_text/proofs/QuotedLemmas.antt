-- What quotes leave as it is.
use Rattle.std.proofs.Common.{◌≡◌, ℕ, ◌<◌, List, [], ◌∷◌, ◌++◌, length, get_or, refl, sym, ap, ap₂, ◌∙◌, arith, inl, inr}
use Rattle.std.specs.List.{AllByRecursion, flat_map}
use Rattle.std.specs.Prelude.{encode_utf8, encode_utf8_all}
use Rattle.std.proofs.lemmas.Bool.{cases_lt}
use Rattle.std.proofs.lemmas.List.{append-nil, get_or_default}
use Rattle.std.proofs.lemmas.List.Elements.{recursion_from_All}
use Rattle.std.proofs.lemmas.List.Concat.{flat_map-append}
use Rattle.std.proofs.lemmas.Str.{encodes-append, inside_one}
use Rattle.model_quoting.proofs.QuotedAs.{IsBare, quoted_byte-bare}
use Rattle.model_quoting.specs.Quoted.{quoted_byte}

flat_map-quoted_byte-same : (bytes : List ℕ) → AllByRecursion IsBare bytes → flat_map quoted_byte bytes ≡ bytes
flat_map-quoted_byte-same [] h = refl
flat_map-quoted_byte-same (b ∷ bytes) h =
    ap₂ (λ front rest. front ++ rest) (quoted_byte-bare b h.0) (flat_map-quoted_byte-same bytes h.1)

-- a letter that has an ASCII byte at a place is that byte
letter_at : (c k d : ℕ) → k < length (encode_utf8 c) → get_or (encode_utf8 c) k d < 128 → c ≡ get_or (encode_utf8 c) k d
letter_at c k d lt small =
    let at_zero : get_or (encode_utf8 c) k 0 ≡ get_or (encode_utf8 c) k d = get_or_default (encode_utf8 c) k 0 d lt in
    inside_one c [] (encode_utf8 c) k (sym (append-nil (encode_utf8 c))) lt (rw at_zero small) ∙ at_zero

IsBare-ascii : (c b : ℕ) → IsBare c → c ≡ b → IsBare b
IsBare-ascii c b h same = record {
  no_control = omega (arith, h.no_control, same);
  no_delete = λ e. h.no_delete (same ∙ e);
  no_backslash = λ e. h.no_backslash (same ∙ e);
  no_quote = λ e. h.no_quote (same ∙ e);
}

IsBare-byte : (c b : ℕ) → IsBare c → (b < 128 → c ≡ b) → IsBare b
IsBare-byte c b h same =
    elim (cases_lt b 128) [
      | inl lt ↦ IsBare-ascii c b h (same lt)
      | inr le ↦ record { no_control = omega arith; no_delete = λ e. omega arith; no_backslash = λ e. omega arith; no_quote = λ e. omega arith }
    ]

-- a letter that needs no escape
pub flat_map-quoted_byte-letter : (c : ℕ) → IsBare c → flat_map quoted_byte (encode_utf8 c) ≡ encode_utf8 c
flat_map-quoted_byte-letter c h =
    flat_map-quoted_byte-same (encode_utf8 c) (recursion_from_All IsBare (encode_utf8 c) (λ k d lt. IsBare-byte c (get_or (encode_utf8 c) k d) h (letter_at c k d lt)))

pub flat_map-quoted_byte-push : (letters : List ℕ) (c : ℕ)
    → flat_map quoted_byte (encode_utf8_all (letters ++ c ∷ []))
    ≡ flat_map quoted_byte (encode_utf8_all letters) ++ flat_map quoted_byte (encode_utf8 c)
flat_map-quoted_byte-push letters c =
    ap (flat_map quoted_byte) (encodes-append letters (c ∷ []))
    ∙ flat_map-append quoted_byte (encode_utf8_all letters) (encode_utf8 c ++ [])
    ∙ ap (λ bytes. flat_map quoted_byte (encode_utf8_all letters) ++ flat_map quoted_byte bytes) (append-nil (encode_utf8 c))
