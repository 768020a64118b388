-- The passes over raw parts: what one step does to the answer.
use Rattle.std.proofs.Common.{◌≡◌, ◌≢◌, ℕ, ◌+◌, ◌-◌, ◌<◌, Bool, true, false, not, ◌==◌, ◌&&◌, ◌||◌, List, ◌∷◌, length, get_or, drop, codes, Option, Some, Result, Ok, Err, is_none, refl, sym, ap, ap₂, ◌∙◌, inl, inr, arith, drop-cons, add-one}
use Rattle.std.specs.Option.{option_map}
use Rattle.std.specs.Result.{result_err, result_map_both}
use Rattle.std.proofs.lemmas.Bool.{cond-true, cond-false, cases_eq, eq-eqb, ne_eqb, or_cases}
use Rattle.general_words.specs.Texts.{is_text}
use Rattle.general_words.proofs.Texts.{same_text}
use Rattle.model_names.specs.Name.{Part}
use Rattle.model_names.specs.Spells.{Adds, part_of_text, put_letter, read_letters}
use Rattle.model_names.proofs.ReadLemmas.{by_form, read_letters-plain}
use Rattle.model_names.specs.ArrayPart.{is_array_like, canonical_part}
use Rattle.general_words.specs.Searches.{first_some}
use Rattle.model_names.specs.Refuses.{bad_escape, bad_array}
use Rattle.key_name.specs.declared.raw_parts.Raw.{Raw}
use Rattle.key_name.specs.Raws.{with_places}
use Rattle.key_name.proofs.ArrayLemmas.{bad_array-raw, either, empty_text}
use Rattle.key_name.proofs.CutLemmas.{drop-next}
use Rattle.general_words.proofs.Searches.{first_some-none, first_some-some}

-- ---- escapes

-- the place of the first backslash that escapes nothing in letters that begin at a place
abbrev pub bad_letter : ℕ → List ℕ → Option ℕ
bad_letter place bytes = option_map (λ at. place + at) (result_err (read_letters bytes))

-- the same of what stands behind a backslash that waits for its byte, or behind none
abbrev pub bad_letter_from : Bool → ℕ → List ℕ → Option ℕ
bad_letter_from true place bytes = bad_letter (place - 1) (92 ∷ bytes)
bad_letter_from false place bytes = bad_letter place bytes

bad_letter-put : (place bytes letter : ℕ) (rest : Result Part ℕ)
    → option_map (λ at. place + at) (result_err (put_letter bytes letter rest))
    ≡ option_map (λ at. place + bytes + at) (result_err rest)
bad_letter-put place bytes letter (Ok part) = refl
bad_letter-put place bytes letter (Err at) =
    let same : place + (at + bytes) ≡ place + bytes + at = omega arith in ap (λ n. Some n) same

step_fine : (waits : Bool) (place b : ℕ) (bytes : List ℕ) → (waits ≡ true → 0 < place)
    → (waits && not ((b == 92) || (b == 47))) ≡ false
    → bad_letter_from waits place (b ∷ bytes) ≡ bad_letter_from (not waits && (b == 92)) (place + 1) bytes
step_fine false place b bytes behind h =
    elim (cases_eq b 92) [
      | inl e ↦
          let back : place ≡ place + 1 - 1 = omega arith in
          ap (λ b. bad_letter place (b ∷ bytes)) e ∙ ap (λ p. bad_letter p (92 ∷ bytes)) back
          ∙ ap (λ t. bad_letter_from t (place + 1) bytes) (sym (eq-eqb b 92 e))
      | inr other ↦
          ap (λ r. option_map (λ at. place + at) (result_err r)) (read_letters-plain b bytes other)
          ∙ bad_letter-put place 1 b (read_letters bytes)
          ∙ ap (λ t. bad_letter_from t (place + 1) bytes) (sym (ne_eqb b 92 other))
    ]
step_fine true place b bytes behind h =
    let some = behind refl in
    let next : place - 1 + 2 ≡ place + 1 = omega arith in
    ap (λ r. option_map (λ at. place - 1 + at) (result_err r)) (cond-true ((b == 92) || (b == 47)) _ _ (by ((b == 92) || (b == 47)) h))
    ∙ bad_letter-put (place - 1) 2 b (read_letters bytes) ∙ ap (λ p. bad_letter p bytes) next
  where
    by : (t : Bool) → not t ≡ false → t ≡ true
    by true h = refl
    by false h = absurd cc

-- a byte that may stand where it does
pub bad_letter_from-next : (waits : Bool) (place i : ℕ) (text : List ℕ) → i < length text → (waits ≡ true → 0 < i)
    → (waits && not ((get_or text i 0 == 92) || (get_or text i 0 == 47))) ≡ false
    → bad_letter_from waits (place + i) (drop i text)
    ≡ bad_letter_from (not waits && (get_or text i 0 == 92)) (place + i + 1) (drop (i + 1) text)
bad_letter_from-next waits place i text h behind fine =
    ap (bad_letter_from waits (place + i)) (drop-next text i h)
    ∙ step_fine waits (place + i) (get_or text i 0) (drop (i + 1) text) (λ e. omega (arith, behind e)) fine

-- a raw part that is none of the literal ones
pub bad_escape-letters : (place : ℕ) (raw : List ℕ) → raw ≢ 92 ∷ codes "%" → raw ≢ 92 ∷ codes "."
    → raw ≢ 92 ∷ codes ".." → bad_escape (place, raw) ≡ bad_letter place raw
bad_escape-letters place raw percent dot dots =
    let as_text = λ (text : List ℕ) (e : is_text raw text ≡ true). sym (ap (bad_letter place) (same_text raw text e)) in
    by_form (λ r. option_map (λ at. place + at) (result_err r)) raw
    ∙ either ((length raw == 0) || is_text raw (codes ".")) _ _ _ (λ e. elim (or_cases (length raw == 0) (is_text raw (codes ".")) e) [ inl e ↦ sym (ap (bad_letter place) (empty_text raw e)) | inr e ↦ as_text (codes ".") e ])
    (either (is_text raw (codes "..")) _ _ _ (as_text (codes ".."))
    (either (is_text raw (codes "%")) _ _ _ (as_text (codes "%"))
    (either (is_text raw (92 ∷ codes "%")) _ _ _ (λ e. absurd (percent (same_text raw (92 ∷ codes "%") e)))
    (either (is_text raw (92 ∷ codes ".")) _ _ _ (λ e. absurd (dot (same_text raw (92 ∷ codes ".") e)))
    (either (is_text raw (92 ∷ codes "..")) _ _ _ (λ e. absurd (dots (same_text raw (92 ∷ codes "..") e))) (by (read_letters raw)))))))
  where
    by : (letters : Result Part ℕ)
        → option_map (λ at. place + at) (result_err (result_map_both (λ text. option_map Adds (part_of_text text)) (λ at. at) letters))
        ≡ option_map (λ at. place + at) (result_err letters)
    by (Ok text) = refl
    by (Err at) = refl

-- ---- raw parts

-- what is left of a list begins with its next item
pub drop-item : {A : Type 0} (xs : List A) (i : ℕ) (x : A) → x ≡ get_or xs i x → i < length xs
    → drop i xs ≡ x ∷ drop (i + 1) xs
drop-item xs i x e h = drop-cons xs i x h ∙ ap₂ (λ y n. y ∷ drop n xs) (sym e) (sym (add-one i))

-- the next raw part has no bad array, or it has
pub bad_arrays-next : (raws : List Raw) (i : ℕ) (raw : Raw) → raw ≡ get_or raws i raw → i < length raws
    → (is_array_like raw.text.now && is_none (canonical_part raw.text.now)) ≡ false
    → first_some bad_array (with_places (drop i raws)) ≡ first_some bad_array (with_places (drop (i + 1) raws))
bad_arrays-next raws i raw e h fine =
    ap (λ left. first_some bad_array (with_places left)) (drop-item raws i raw e h)
    ∙ first_some-none bad_array (raw.at, raw.text.now) (with_places (drop (i + 1) raws)) (bad_array-raw raw.at raw.text.now ∙ cond-false _ _ _ fine)

pub bad_arrays-bad : (raws : List Raw) (i : ℕ) (raw : Raw) → raw ≡ get_or raws i raw → i < length raws
    → (is_array_like raw.text.now && is_none (canonical_part raw.text.now)) ≡ true
    → first_some bad_array (with_places (drop i raws)) ≡ Some raw.at
bad_arrays-bad raws i raw e h bad =
    ap (λ left. first_some bad_array (with_places left)) (drop-item raws i raw e h)
    ∙ first_some-some bad_array (raw.at, raw.text.now) (with_places (drop (i + 1) raws)) raw.at (bad_array-raw raw.at raw.text.now ∙ cond-true _ _ _ bad)
