-- A part that is spelled well, is free of NUL and leaves the path short enough makes a name behind another, and one
-- that makes a name is not refused.
use Rattle.std.proofs.Common.{◌≡◌, ◌≢◌, ℕ, ◌≤◌, Bool, true, false, ltb, not, ◌==◌, ◌&&◌, List, [], ◌∷◌, ◌++◌, length, Option, Some, None, refl, ap, ◌∙◌, arith}
use Rattle.std.specs.List.{position}
use Rattle.std.specs.Option.{option_map, option_or}
use Rattle.std.specs.Str.{IsUtf8}
use Rattle.std.proofs.lemmas.Bool.{cond-false, false_from_ne_true, ltb-true}
use Rattle.general_words.specs.Saturated.{saturated}
use Rattle.general_words.proofs.Lists.{all_append, all_back}
use Rattle.model_names.specs.declared.namespaces.Namespace.{Namespace}
use Rattle.model_names.specs.ArrayPart.{is_array_like, is_canonical}
use Rattle.model_names.specs.Name.{Name, Part}
use Rattle.model_names.specs.Refuses.{Refusal, Nul}
use Rattle.model_names.specs.Spelling.{path, path_of_parts}
use Rattle.model_names.specs.Spells.{longest_path}
use Rattle.model_names.specs.WellFormed.{IsName, IsPart}
use Rattle.model_names.proofs.RefusesLemmas.{no_nul-from_position, position-no_nul}
use Rattle.key_name.specs.Children.{child_of, child_refusal, is_misspelled, too_long_path}
use Rattle.key_name.specs.Refused.{IsChildRefusal}
use Rattle.key_name.specs.declared.faults.NameFault.{NameFault}
use Rattle.key_name.specs.declared.faults.NameFault.TheVariants as faults
use Rattle.key_name.proofs.NameOfLemmas.{refusal_is}

canonical-spelled : (part : Part) → is_misspelled part ≡ false → is_array_like part ≡ true → is_canonical part ≡ true
canonical-spelled part spelled like = by (is_array_like part) (is_canonical part) like spelled
  where
    by : (a b : Bool) → a ≡ true → (a && not b) ≡ false → b ≡ true
    by true true e h = refl
    by true false e h = absurd cc
    by false b e h = absurd cc

-- ---- the name

pub IsName-child : (m n : Namespace) (parts : List Part) (part : Part)
    → IsName (record { namespace = m; parts = parts }) → IsUtf8 part → is_misspelled part ≡ false
    → position (λ b. b == 0) part ≡ None → length (path_of_parts (parts ++ part ∷ [])) ≤ longest_path
    → IsName (record { namespace = n; parts = parts ++ part ∷ [] })
IsName-child m n parts part above utf8 spelled no_nul limit = record {
  parts = all_append IsPart parts (part ∷ []) above.parts (record { utf8 = utf8; no_nul = no_nul-from_position part no_nul; canonical = canonical-spelled part spelled }, tt);
  limit = limit;
}

pub child_refusal-none : (name : Name) (part : Part) → is_misspelled part ≡ false → position (λ b. b == 0) part ≡ None
    → length (path (child_of name part)) ≤ longest_path → child_refusal name part ≡ None
child_refusal-none name part spelled no_nul limit =
    cond-false _ _ _ spelled ∙ ap (λ nul. option_or (option_map Nul nul) (too_long_path (child_of name part))) no_nul
    ∙ cond-false (ltb longest_path (length (path (child_of name part)))) _ _ (false_from_ne_true _ (λ long. let over = ltb-true longest_path (length (path (child_of name part))) long in omega arith))

-- a length that is given as it is, since it is not beyond the type's end
pub saturated_short : (bytes given : ℕ) → given ≡ saturated bytes → given ≤ longest_path → given ≡ bytes
saturated_short bytes given e short = omega arith

-- ---- a part that makes a name

spelled_well : (part : Part) → IsPart part → is_misspelled part ≡ false
spelled_well part is = by (is_array_like part) (is_canonical part) is.canonical
  where
    by : (like canonical : Bool) → (like ≡ true → canonical ≡ true) → (like && not canonical) ≡ false
    by true true h = refl
    by true false h = let clash = h refl in absurd cc
    by false canonical h = refl

accepted : (above : Name) (part : Part) → IsName (child_of above part) → child_refusal above part ≡ None
accepted above part is =
    let last = (all_back IsPart above.parts (part ∷ []) is.parts).0 in
    cond-false _ _ _ (spelled_well part last)
    ∙ ap (λ nul. option_or (option_map Nul nul) (too_long_path (child_of above part))) (position-no_nul part last.no_nul)
    ∙ cond-false (ltb longest_path (length (path (child_of above part)))) _ _ (false_from_ne_true _ (λ long. let over = ltb-true longest_path (length (path (child_of above part))) long in let limit = is.limit in absurd (omega arith)))

clash : (wrong : Option Refusal) (refusal : Refusal) → wrong ≡ Some refusal → wrong ≡ None → ⊥
clash wrong refusal e none = absurd cc

pub refused-no_name : (above : Name) (part : Part) (fault : NameFault) → IsChildRefusal above part fault
    → fault ≢ faults.Memory → IsName (child_of above part) → ⊥
refused-no_name above part fault refused other is =
    let refusal = refusal_is _ fault other refused in clash (child_refusal above part) refusal.0 refusal.1 (accepted above part is)
