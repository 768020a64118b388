-- A line without a backslash says what its bytes say: its signs are its bytes, each as it stands.
use Rattle.std.proofs.Common.{◌≡◌, ◌≢◌, ℕ, Bool, true, false, List, [], ◌∷◌, Option, Some, None, length, map, cond, refl, sym, ap, ap₂, subst, ◌∙◌}
use Rattle.std.specs.Prelude.{◌||◌, ◌&&◌, ◌==◌, option_and_then}
use Rattle.std.specs.Option.{option_map}
use Rattle.std.proofs.lemmas.Bool.{eq-eqb, cond-false, or_parts}
use Rattle.std.proofs.lemmas.List.{length-map}
use Rattle.general_words.proofs.Lists.{found_once}
use Rattle.model_lines.specs.Lines.{without_return}
use Rattle.model_ini.specs.declared.signs.Sign.{Sign}
use Rattle.model_ini.specs.declared.signs.Sign.TheVariants.{Plain}
use Rattle.model_ini.specs.Line.{Pair, Unreadable, meaning, meaning_behind_blanks, meaning_of_sides, pair_of}
use Rattle.model_ini.specs.Signs.{signs, byte_of, text_of, is_blank, without_front, without_back, trimmed, cut_at_equals}
use Rattle.model_ini.proofs.SignLemmas.{signs-plain}
use Rattle.ini_storage.specs.Plain.{has_backslash, is_blank_byte, trimmed_bytes, cut_at_byte}

-- ---- no backslash stands in what is cut off such a line

neither : (a b : Bool) → a ≡ false → b ≡ false → (a || b) ≡ false
neither a b one two = ap₂ (λ (s t : Bool). s || t) one two

return-bare : (bs : List ℕ) → has_backslash bs ≡ false → has_backslash (without_return bs) ≡ false
return-bare [] bare = bare
return-bare (b ∷ []) bare = by (b == 13)
  where
    by : (t : Bool) → has_backslash (cond t [] (b ∷ [])) ≡ false
    by true = refl
    by false = bare
return-bare (b ∷ c ∷ bs) bare =
    let parts = or_parts (b == 92) (has_backslash (c ∷ bs)) bare in
    neither (b == 92) (has_backslash (without_return (c ∷ bs))) parts.0 (return-bare (c ∷ bs) parts.1)

front-bare : (bs : List ℕ) → has_backslash bs ≡ false → has_backslash (without_front is_blank_byte bs) ≡ false
front-bare [] bare = bare
front-bare (b ∷ bs) bare = by (is_blank_byte b) (front-bare bs (or_parts (b == 92) (has_backslash bs) bare).1)
  where
    by : (t : Bool) → has_backslash (without_front is_blank_byte bs) ≡ false
        → has_backslash (cond t (without_front is_blank_byte bs) (b ∷ bs)) ≡ false
    by true more = more
    by false more = bare

back-bare : (bs : List ℕ) → has_backslash bs ≡ false → has_backslash (without_back is_blank_byte bs) ≡ false
back-bare [] bare = bare
back-bare (b ∷ bs) bare =
    let parts = or_parts (b == 92) (has_backslash bs) bare in
    by (without_back is_blank_byte bs) (is_blank_byte b && (length (without_back is_blank_byte bs) == 0)) parts.0 (back-bare bs parts.1)
  where
    by : (rest : List ℕ) (t : Bool) → (b == 92) ≡ false → has_backslash rest ≡ false
        → has_backslash (cond t [] (b ∷ rest)) ≡ false
    by rest true other more = refl
    by rest false other more = neither (b == 92) (has_backslash rest) other more

abbrev AreBare : List ℕ × List ℕ → Type 0
AreBare sides = (has_backslash sides.0 ≡ false) × (has_backslash sides.1 ≡ false)

cut-bare : (bs : List ℕ) → has_backslash bs ≡ false → (sides : List ℕ × List ℕ) → cut_at_byte bs ≡ Some sides
    → AreBare sides
cut-bare [] bare sides found = absurd cc
cut-bare (b ∷ bs) bare sides found =
    let parts = or_parts (b == 92) (has_backslash bs) bare in
    by (b == 61) (cut_at_byte bs) parts.0 parts.1 (cut-bare bs parts.1) found
  where
    by : (t : Bool) (o : Option (List ℕ × List ℕ)) → (b == 92) ≡ false → has_backslash bs ≡ false
        → ((s : List ℕ × List ℕ) → o ≡ Some s → AreBare s)
        → cond t (Some ([], bs)) (option_map (λ (s : List ℕ × List ℕ). (b ∷ s.0, s.1)) o) ≡ Some sides → AreBare sides
    by true o other more each now = subst AreBare (found_once ([], bs) sides refl now) (refl, more)
    by false None other more each now = absurd cc
    by false (Some s) other more each now =
        let both = each s refl in
        subst AreBare (found_once (b ∷ s.0, s.1) sides refl now) (neither (b == 92) (has_backslash s.0) other both.0, both.1)

-- ---- the same of bytes and of their signs

signs-bare : (bs : List ℕ) → has_backslash bs ≡ false → signs bs ≡ map Plain bs
signs-bare [] bare = refl
signs-bare (b ∷ bs) bare =
    let parts = or_parts (b == 92) (has_backslash bs) bare in
    let other : b ≢ 92 = λ same. absurd (let both : true ≡ false = sym (eq-eqb b 92 same) ∙ parts.0 in cc) in
    signs-plain b bs other ∙ ap (λ (rest : List Sign). Plain b ∷ rest) (signs-bare bs parts.1)

text-bare : (bs : List ℕ) → has_backslash bs ≡ false → text_of (map Plain bs) ≡ Some bs
text-bare [] bare = refl
text-bare (b ∷ bs) bare =
    let parts = or_parts (b == 92) (has_backslash bs) bare in
    let stands : byte_of (Plain b) ≡ Some b = cond-false (b == 92) _ _ parts.0 in
    ap₂ (λ (byte : Option ℕ) (text : Option (List ℕ)). option_and_then (λ c. option_map (λ more. c ∷ more) text) byte) stands (text-bare bs parts.1)

front-signs : (bs : List ℕ) → without_front is_blank (map Plain bs) ≡ map Plain (without_front is_blank_byte bs)
front-signs [] = refl
front-signs (b ∷ bs) = by (is_blank_byte b) (front-signs bs)
  where
    by : (t : Bool) → without_front is_blank (map Plain bs) ≡ map Plain (without_front is_blank_byte bs)
        → cond t (without_front is_blank (map Plain bs)) (Plain b ∷ map Plain bs)
        ≡ map Plain (cond t (without_front is_blank_byte bs) (b ∷ bs))
    by true more = more
    by false more = refl

back-signs : (bs : List ℕ) → without_back is_blank (map Plain bs) ≡ map Plain (without_back is_blank_byte bs)
back-signs [] = refl
back-signs (b ∷ bs) =
    ap (λ (more : List Sign). cond (is_blank_byte b && (length more == 0)) [] (Plain b ∷ more)) (back-signs bs)
    ∙ ap (λ n. cond (is_blank_byte b && (n == 0)) [] (Plain b ∷ map Plain rest)) (length-map rest Plain)
    ∙ by (is_blank_byte b && (length rest == 0))
  where
    rest : List ℕ
    rest = without_back is_blank_byte bs

    by : (t : Bool) → cond t [] (Plain b ∷ map Plain rest) ≡ map Plain (cond t [] (b ∷ rest))
    by true = refl
    by false = refl

abbrev side_signs : List ℕ × List ℕ → List Sign × List Sign
side_signs sides = (map Plain sides.0, map Plain sides.1)

cut-signs : (bs : List ℕ) → cut_at_equals (map Plain bs) ≡ option_map side_signs (cut_at_byte bs)
cut-signs [] = refl
cut-signs (b ∷ bs) =
    ap (λ (o : Option (List Sign × List Sign)). cond (b == 61) (Some ([], map Plain bs)) (option_map (λ s. (Plain b ∷ s.0, s.1)) o)) (cut-signs bs)
    ∙ by (b == 61) (cut_at_byte bs)
  where
    by : (t : Bool) (o : Option (List ℕ × List ℕ))
        → cond t (Some ([], map Plain bs)) (option_map (λ s. (Plain b ∷ s.0, s.1)) (option_map side_signs o))
        ≡ option_map side_signs (cond t (Some ([], bs)) (option_map (λ s. (b ∷ s.0, s.1)) o))
    by true o = refl
    by false None = refl
    by false (Some s) = refl

-- ---- what a line says

side-text : (bs : List ℕ) → has_backslash bs ≡ false → text_of (trimmed (map Plain bs)) ≡ Some (trimmed_bytes bs)
side-text bs bare =
    ap (λ ss. text_of (without_back is_blank ss)) (front-signs bs)
    ∙ ap text_of (back-signs (without_front is_blank_byte bs))
    ∙ text-bare (trimmed_bytes bs) (back-bare (without_front is_blank_byte bs) (front-bare bs bare))

pub no_sides : (bs : List ℕ) → cut_at_byte bs ≡ None → Unreadable ≡ meaning_of_sides (cut_at_equals (map Plain bs))
no_sides bs none = sym (ap meaning_of_sides (cut-signs bs ∙ ap (option_map side_signs) none))

pub two_sides : (bs : List ℕ) → has_backslash bs ≡ false → (sides : List ℕ × List ℕ) → cut_at_byte bs ≡ Some sides
    → Pair (trimmed_bytes sides.0) (trimmed_bytes sides.1) ≡ meaning_of_sides (cut_at_equals (map Plain bs))
two_sides bs bare sides found =
    let bare_sides = cut-bare bs bare sides found in
    sym (ap meaning_of_sides (cut-signs bs ∙ ap (option_map side_signs) found) ∙ ap₂ pair_of (side-text sides.0 bare_sides.0) (side-text sides.1 bare_sides.1))

pub bare_behind : (line : List ℕ) → has_backslash line ≡ false
    → has_backslash (without_front is_blank_byte (without_return line)) ≡ false
bare_behind line bare = front-bare (without_return line) (return-bare line bare)

pub bare_meaning : (line : List ℕ) → has_backslash line ≡ false
    → meaning_behind_blanks (map Plain (without_front is_blank_byte (without_return line))) ≡ meaning line
bare_meaning line bare =
    let said : List ℕ = without_return line in
    sym (ap (λ ss. meaning_behind_blanks (without_front is_blank ss)) (signs-bare said (return-bare line bare)) ∙ ap meaning_behind_blanks (front-signs said))
