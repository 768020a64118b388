-- A text without a byte that is covered anywhere stands on a line as it is.
use Rattle.std.proofs.Common.{◌≡◌, ℕ, Bool, false, List, [], ◌∷◌, map, refl, ap, ap₂, ◌∙◌}
use Rattle.std.specs.Prelude.{◌||◌, ◌==◌}
use Rattle.std.specs.List.{flat_map, list_any}
use Rattle.std.proofs.lemmas.Bool.{cond-false, or_parts}
use Rattle.model_ini.specs.declared.signs.Sign.{Sign}
use Rattle.model_ini.specs.declared.signs.Sign.TheVariants.{Plain}
use Rattle.model_ini.specs.Signs.{spelled_sign}
use Rattle.model_ini.specs.Text.{at_first, at_last, cover_blank, cover_mark, name_sign, value_sign}
use Rattle.ini_storage.specs.Plain.{may_be_covered}
use Rattle.ini_storage.specs.SideView.{signs_at}
use Rattle.ini_storage.specs.declared.writing.Side.{Side}
use Rattle.ini_storage.specs.declared.writing.Side.TheVariants as sides

-- ---- such a byte

record StandsBare (b : ℕ) : Type 0 where
  value : value_sign b ≡ Plain b
  name : name_sign b ≡ Plain b
  blank : cover_blank (Plain b) ≡ Plain b
  mark : cover_mark (Plain b) ≡ Plain b

stands-bare : (b : ℕ) → may_be_covered b ≡ false → StandsBare b
stands-bare b bare =
    let slash = or_parts (b == 92) _ bare in
    let feed = or_parts (b == 10) _ slash.1 in
    let return_ = or_parts (b == 13) _ feed.1 in
    let tab = or_parts (b == 9) _ return_.1 in
    let equals = or_parts (b == 61) _ tab.1 in
    let blank = or_parts (b == 32) _ equals.1 in
    let value : value_sign b ≡ Plain b = cond-false (b == 92) _ _ slash.0 ∙ cond-false (b == 10) _ _ feed.0 ∙ cond-false (b == 13) _ _ return_.0 ∙ cond-false (b == 9) _ _ tab.0 in
    record {
      value = value;
      name = cond-false (b == 61) _ _ equals.0 ∙ value;
      blank = cond-false (b == 32) _ _ blank.0;
      mark = cond-false ((b == 35) || (b == 59) || (b == 91)) _ _ blank.1;
    }

-- ---- such a text

covers : List ℕ → Bool
covers text = list_any may_be_covered text

signs-stand : (f : ℕ → Sign) → ((b : ℕ) → StandsBare b → f b ≡ Plain b) → (text : List ℕ) → covers text ≡ false
    → map f text ≡ map Plain text
unfolding covers
signs-stand f each [] bare = refl
signs-stand f each (b ∷ text) bare =
    let parts = or_parts (may_be_covered b) _ bare in
    ap₂ (λ (s : Sign) (ss : List Sign). s ∷ ss) (each b (stands-bare b parts.0)) (signs-stand f each text parts.1)

last-stands : (text : List ℕ) → covers text ≡ false → at_last cover_blank (map Plain text) ≡ map Plain text
unfolding covers
last-stands [] bare = refl
last-stands (b ∷ []) bare = ap (λ (s : Sign). s ∷ []) (stands-bare b (or_parts (may_be_covered b) _ bare).0).blank
last-stands (b ∷ c ∷ text) bare =
    ap (λ (ss : List Sign). Plain b ∷ ss) (last-stands (c ∷ text) (or_parts (may_be_covered b) _ bare).1)

first-stands : (f : Sign → Sign) → ((b : ℕ) → StandsBare b → f (Plain b) ≡ Plain b) → (text : List ℕ)
    → covers text ≡ false → at_first f (map Plain text) ≡ map Plain text
unfolding covers
first-stands f each [] bare = refl
first-stands f each (b ∷ text) bare =
    ap (λ (s : Sign). s ∷ map Plain text) (each b (stands-bare b (or_parts (may_be_covered b) _ bare).0))

spelled-stand : (text : List ℕ) → flat_map spelled_sign (map Plain text) ≡ text
spelled-stand [] = refl
spelled-stand (b ∷ text) = ap (λ rest. b ∷ rest) (spelled-stand text)

-- from the last sign on
at_ends : (f : ℕ → Sign) → ((b : ℕ) → StandsBare b → f b ≡ Plain b) → (text : List ℕ) → covers text ≡ false
    → at_first cover_blank (at_last cover_blank (map f text)) ≡ map Plain text
at_ends f each text bare =
    ap (λ ss. at_first cover_blank (at_last cover_blank ss)) (signs-stand f each text bare)
    ∙ ap (at_first cover_blank) (last-stands text bare)
    ∙ first-stands cover_blank (λ b stands. stands.blank) text bare

pub bare-text : (side : Side) (text : List ℕ) → list_any may_be_covered text ≡ false
    → flat_map spelled_sign (signs_at side text) ≡ text
unfolding covers
bare-text sides.Value text bare =
    ap (flat_map spelled_sign) (at_ends value_sign (λ b stands. stands.value) text bare) ∙ spelled-stand text
bare-text sides.Name text bare =
    ap (λ ss. flat_map spelled_sign (at_first cover_mark ss)) (at_ends name_sign (λ b stands. stands.name) text bare)
    ∙ ap (flat_map spelled_sign) (first-stands cover_mark (λ b stands. stands.mark) text bare)
    ∙ spelled-stand text
