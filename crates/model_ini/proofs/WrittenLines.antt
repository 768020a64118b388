-- The line of a name and a value says just them, and ends no line.
use Rattle.std.specs.Prelude.{◌≡◌, ◌≢◌, ℕ, false, ◌||◌, ◌==◌, List, [], ◌∷◌, ◌++◌, Some}
use Rattle.std.proofs.Common.{refl, sym, ap, subst, ◌∙◌, append_assoc}
use Rattle.std.specs.List.{AllByRecursion, flat_map}
use Rattle.std.proofs.lemmas.Bool.{ne_eqb, eqb-false, cond-false, or_from}
use Rattle.std.proofs.lemmas.List.Concat.{flat_map-append}
use Rattle.model_lines.specs.Lines.{without_return}
use Rattle.model_lines.proofs.AllLemmas.{all-weaker, all-flat_map}
use Rattle.model_lines.proofs.LineLemmas.{IsInLine, without_return-same}
use Rattle.model_ini.specs.declared.signs.Sign.{Sign}
use Rattle.model_ini.specs.declared.signs.Sign.TheVariants.{Plain, Covered}
use Rattle.model_ini.specs.Signs.{signs, spelled_sign, text_of, is_blank, is_equals, without_front, trimmed, cut_at_equals}
use Rattle.model_ini.specs.Line.{Pair, pair_of, meaning_of_sides, meaning_behind_blanks, meaning}
use Rattle.model_ini.specs.Text.{value_sign, name_sign, cover_blank, cover_mark, at_first, at_last, value_signs, name_signs, line_of}
use Rattle.model_ini.proofs.SignLemmas.{IsBare, signs-spelled, byte_of-value_sign, byte_of-name_sign, byte_of-cover_blank, byte_of-cover_mark, text_of-map, text_of-at_first, text_of-at_last}
use Rattle.model_ini.proofs.Trimming.{LastFails, trimmed-same, trimmed-blank_behind, cut_at_equals-at}
use Rattle.model_ini.proofs.WrittenSigns.{IsWritten, Begins, AreBegun, IsFilled, value_signs-written, name_signs-written, value_signs-first, value_signs-last, name_signs-last, name_signs-not_equals, name_signs-begun, bare-written}
use Rattle.std.specs.Prelude.{map}
use Rattle.general_words.proofs.Lists.{all_append}

pub text_of-value_signs : (text : List ℕ) → text_of (value_signs text) ≡ Some text
text_of-value_signs text =
    text_of-at_first cover_blank byte_of-cover_blank (at_last cover_blank (map value_sign text))
    ∙ text_of-at_last cover_blank byte_of-cover_blank (map value_sign text)
    ∙ text_of-map value_sign byte_of-value_sign text

pub text_of-name_signs : (text : List ℕ) → text_of (name_signs text) ≡ Some text
text_of-name_signs text =
    text_of-at_first cover_mark byte_of-cover_mark (at_first cover_blank (at_last cover_blank (map name_sign text)))
    ∙ text_of-at_first cover_blank byte_of-cover_blank (at_last cover_blank (map name_sign text))
    ∙ text_of-at_last cover_blank byte_of-cover_blank (map name_sign text) ∙ text_of-map name_sign byte_of-name_sign text

-- the signs of a line
abbrev pub line_signs : List ℕ → List ℕ → List Sign
line_signs name value = name_signs name ++ Plain 32 ∷ Plain 61 ∷ Plain 32 ∷ value_signs value

pub line_of-spelled : (name value : List ℕ) → line_of name value ≡ flat_map spelled_sign (line_signs name value)
line_of-spelled name value =
    sym (flat_map-append spelled_sign (name_signs name) (Plain 32 ∷ Plain 61 ∷ Plain 32 ∷ value_signs value))

pub line_signs-written : (name value : List ℕ) → AllByRecursion IsWritten (line_signs name value)
line_signs-written name value =
    let blank : IsWritten (Plain 32) = record { no_backslash = eqb-false 32 92 refl; no_feed = eqb-false 32 10 refl; no_return = eqb-false 32 13 refl; no_tab = eqb-false 32 9 refl } in
    let equals : IsWritten (Plain 61) = record { no_backslash = eqb-false 61 92 refl; no_feed = eqb-false 61 10 refl; no_return = eqb-false 61 13 refl; no_tab = eqb-false 61 9 refl } in
    all_append IsWritten (name_signs name) (Plain 32 ∷ Plain 61 ∷ Plain 32 ∷ value_signs value) (name_signs-written name) (blank, (equals, (blank, value_signs-written value)))

spelled-in_line : (s : Sign) → IsWritten s → AllByRecursion (λ b. (b ≢ 10) × (b ≢ 13)) (spelled_sign s)
spelled-in_line (Plain b) h = ((h.no_feed, h.no_return), tt)
spelled-in_line (Covered b) h = ((eqb-false 92 10 refl, eqb-false 92 13 refl), ((h.0, h.1), tt))

line_of-clean : (name value : List ℕ) → AllByRecursion (λ b. (b ≢ 10) × (b ≢ 13)) (line_of name value)
line_of-clean name value =
    subst (λ bytes. AllByRecursion (λ b. (b ≢ 10) × (b ≢ 13)) bytes) (sym (line_of-spelled name value))
    (all-flat_map (λ b. (b ≢ 10) × (b ≢ 13)) spelled_sign (line_signs name value)
    (all-weaker IsWritten (λ s. AllByRecursion (λ b. (b ≢ 10) × (b ≢ 13)) (spelled_sign s)) spelled-in_line (line_signs name value) (line_signs-written name value)))

-- no line feed stands in it
pub line_of-in_line : (name value : List ℕ) → AllByRecursion IsInLine (line_of name value)
line_of-in_line name value =
    all-weaker (λ b. (b ≢ 10) × (b ≢ 13)) IsInLine (λ b h. h.0) (line_of name value) (line_of-clean name value)

-- its signs are those that were written
line_of-signs : (name value : List ℕ) → signs (without_return (line_of name value)) ≡ line_signs name value
line_of-signs name value =
    ap signs (without_return-same (line_of name value) (all-weaker (λ b. (b ≢ 10) × (b ≢ 13)) (λ b. b ≢ 13) (λ b h. h.1) (line_of name value) (line_of-clean name value)))
    ∙ ap signs (line_of-spelled name value)
    ∙ signs-spelled (line_signs name value) (all-weaker IsWritten IsBare bare-written (line_signs name value) (line_signs-written name value))

-- signs that begin a line are an entry's
meaning-begun : (ss rest : List Sign) → AreBegun ss
    → meaning_behind_blanks (without_front is_blank (ss ++ rest)) ≡ meaning_of_sides (cut_at_equals (ss ++ rest))
meaning-begun [] rest h = absurd h
meaning-begun (Covered b ∷ ss) rest h = refl
meaning-begun (Plain b ∷ ss) rest h =
    ap meaning_behind_blanks (cond-false (is_blank (Plain b)) (without_front is_blank (ss ++ rest)) (Plain b ∷ (ss ++ rest)) (or_from (b == 32) (b == 9) (ne_eqb b 32 h.0) (ne_eqb b 9 h.1)))
    ∙ cond-false ((b == 35) || (b == 59)) _ _ (or_from (b == 35) (b == 59) (ne_eqb b 35 h.2) (ne_eqb b 59 h.3))
    ∙ cond-false (b == 91) _ _ (ne_eqb b 91 h.4)

begun-not_blank : (s : Sign) → Begins s → is_blank s ≡ false
begun-not_blank (Plain b) h = or_from (b == 32) (b == 9) (ne_eqb b 32 h.0) (ne_eqb b 9 h.1)
begun-not_blank (Covered b) h = refl

trimmed-begun : (ss : List Sign) → AreBegun ss → LastFails is_blank ss → trimmed (ss ++ Plain 32 ∷ []) ≡ ss
trimmed-begun [] begun last = absurd begun
trimmed-begun (s ∷ ss) begun last = trimmed-blank_behind s ss (begun-not_blank s begun) last

-- the sides of the first equals sign are the name's and the value's signs, each with a blank
cut-line_signs : (name value : List ℕ)
    → cut_at_equals (line_signs name value) ≡ Some (name_signs name ++ Plain 32 ∷ [], Plain 32 ∷ value_signs value)
cut-line_signs name value =
    ap cut_at_equals (sym (append_assoc (name_signs name) (Plain 32 ∷ []) (Plain 61 ∷ Plain 32 ∷ value_signs value)))
    ∙ cut_at_equals-at (name_signs name ++ Plain 32 ∷ []) (Plain 32 ∷ value_signs value) (all_append (λ s. is_equals s ≡ false) (name_signs name) (Plain 32 ∷ []) (name_signs-not_equals name) (refl, tt))

pub meaning-line_of : (name value : List ℕ) → IsFilled name → meaning (line_of name value) ≡ Pair name value
meaning-line_of name value filled =
    let begun = name_signs-begun name filled in
    let left : text_of (trimmed (name_signs name ++ Plain 32 ∷ [])) ≡ Some name = ap text_of (trimmed-begun (name_signs name) begun (name_signs-last name)) ∙ text_of-name_signs name in
    let right : text_of (trimmed (Plain 32 ∷ value_signs value)) ≡ Some value = ap text_of (trimmed-same (value_signs value) (value_signs-first value) (value_signs-last value)) ∙ text_of-value_signs value in
    ap (λ ss. meaning_behind_blanks (without_front is_blank ss)) (line_of-signs name value)
    ∙ meaning-begun (name_signs name) (Plain 32 ∷ Plain 61 ∷ Plain 32 ∷ value_signs value) begun
    ∙ ap meaning_of_sides (cut-line_signs name value)
    ∙ (λ i. pair_of (left i) (right i))
