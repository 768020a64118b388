-- What a mount owns: the names at or below its point that are not at or below a point behind it.
use Rattle.std.proofs.Common.{◌≡◌, ℕ, ◌+◌, ◌-◌, ◌<◌, ◌≤◌, Bool, true, false, cond, not, ◌&&◌, ◌||◌, leb, nat_eq, true≢false, suc, List, [], ◌∷◌, length, get_or, take, drop, Option, Some, None, T, refl, sym, ap, subst, ◌∙◌, ◌⊎◌, inl, inr, arith}
use Rattle.std.specs.FinMap as map
use Rattle.std.specs.List.{list_any}
use Rattle.std.specs.List.Sorted.{IsStrictlySortedBy}
use Rattle.std.specs.Option.{option_eq}
use Rattle.std.specs.Ordering.{is_lt, ordering_reverse}
use Rattle.std.specs.declared.cmp.Ordering.TheVariants.{Less, Equal, Greater}
use Rattle.std.proofs.lemmas.Bool.{and_parts, or_from, cases_Bool, eq-eqb, leb-false, leb-true, false_from_ne_true, not_from_true}
use Rattle.std.proofs.lemmas.List.{get_or-drop, get_or_default, length-drop, take-append-drop}
use Rattle.std.proofs.lemmas.List.Folds.{list_all_at, list_any-append, list_any_at, list_any_more}
use Rattle.std.proofs.lemmas.List.Quantifiers.{position-Some}
use Rattle.std.proofs.lemmas.Map.Keys.{Less-from_sorted}
use Rattle.model_names.specs.Below.{is_at_or_below}
use Rattle.model_names.specs.Name.{Name}
use Rattle.model_names.specs.Order.{name_cmp}
use Rattle.model_names.proofs.BelowOrder.{at_or_below-between, at_or_below-not_before}
use Rattle.model_names.proofs.OrderLemmas.{name_cmp_total, name_cmp-IsAntisymmetric}
use Rattle.model_maps.specs.Entry.{Entry}
use Rattle.model_maps.specs.KeyMap.{KeyMap, no_keys, at_or_below, not_below}
use Rattle.general_words.proofs.Maps.{get-retain}
use Rattle.general_words.proofs.Tests.{is_number, true_of}
use Rattle.key_name.specs.Owner.{is_longest, owner_of}
use Rattle.key_name.proofs.OwnerLemmas.{owner_of-last, shorter}
use Rattle.set_split.specs.Involved.{owns}
use Rattle.set_split.specs.Parts.{owned_by}

-- a name is one of some points or below one
abbrev pub is_under : List Name → Name → Bool
is_under points name = list_any (λ point. is_at_or_below point name) points

-- what passes a test stands at a place
pub place_of : {A : Type 0} (f : A → Bool) (xs : List A) (d : A) → list_any f xs ≡ true
    → (k : ℕ) × (k < length xs) × (f (get_or xs k d) ≡ true)
place_of f [] d e = absurd cc
place_of f (x ∷ xs) d e = elim (cases_Bool (f x)) [
  | inl passes ↦ (0, omega arith, passes)
  | inr fails ↦ let rest = place_of f xs d (ap (λ b. b || list_any f xs) (sym fails) ∙ e) in (suc (rest.0), omega (arith, rest.1), rest.2)
]

-- an owner is told by its number
pub owner_is : (points : List Name) (i : ℕ) (name : Name) → owns points i name ≡ true → owner_of points name ≡ Some i
owner_is points i name e = is_number (owner_of points name) i e

-- no mount of a number that is not there owns a name
pub owns-beyond : (points : List Name) (i : ℕ) (name : Name) → length points ≤ i → owns points i name ≡ false
owns-beyond points i name le =
    false_from_ne_true _ (λ e. let there = (position-Some (is_longest points name) points i name (owner_is points i name e)).0 in omega (arith, le, there))

module _ (points : List Name) (rise : IsStrictlySortedBy name_cmp points) (i : ℕ) (point : Name) (within : i < length points) (is : point ≡ get_or points i point) (name : Name) where
  none_behind : is_under (drop (i + 1) points) name ≡ false → (k : ℕ) (d : Name) → i + 1 ≤ k → k < length points
      → is_at_or_below (get_or points k d) name ≡ false
  none_behind none k d le lt = false_from_ne_true _ (λ e.
      let place : (i + 1) + (k - (i + 1)) ≡ k = omega arith in
      let there : get_or (drop (i + 1) points) (k - (i + 1)) d ≡ get_or points k d = get_or-drop (i + 1) points (k - (i + 1)) d ∙ ap (λ n. get_or points n d) place in
      let some = list_any_at (λ p. is_at_or_below p name) (drop (i + 1) points) (k - (i + 1)) d (omega (arith, length-drop (i + 1) points)) (ap (λ p. is_at_or_below p name) there ∙ e) in
      true≢false (sym some ∙ none))

  longest_if : owns points i name ≡ true → is_longest points name point ≡ true
  longest_if e =
      ap (is_longest points name) is
      ∙ (position-Some (is_longest points name) points i point (owner_is points i name e)).1

  pub beside : is_at_or_below point name ≡ false → owns points i name ≡ false
  beside elsewhere =
      false_from_ne_true _ (λ e. true≢false (sym (and_parts (is_at_or_below point name) _ (longest_if e)).0 ∙ elsewhere))

  -- one behind it is longer
  overtaken : is_at_or_below point name ≡ true → is_under (drop (i + 1) points) name ≡ true → owns points i name ≡ false
  overtaken here under = false_from_ne_true _ (λ e.
      let behind = place_of (λ p. is_at_or_below p name) (drop (i + 1) points) point under in
      let k : ℕ = (i + 1) + behind.0 in
      let lt : k < length points = omega (arith, behind.1, length-drop (i + 1) points) in
      let other : Name = get_or points k point in
      let above : is_at_or_below other name ≡ true = ap (λ p. is_at_or_below p name) (sym (get_or-drop (i + 1) points behind.0 point)) ∙ behind.2 in
      let before = ap (λ n. name_cmp n other) is ∙ Less-from_sorted name_cmp points i k point rise (omega arith) lt in
      let longer = shorter name point other here above before in
      let fails = list_all_at (λ p. not (is_at_or_below p name) || leb (length p.parts) (length point.parts)) points k point lt
      (or_from (not (is_at_or_below other name)) _ (not_from_true _ above) (false_from_ne_true _ (λ le. let most = leb-true _ _ le in omega (arith, most, longer)))) in
      true≢false (sym (and_parts (is_at_or_below point name) _ (longest_if e)).1 ∙ fails))

  last_here : is_at_or_below point name ≡ true → is_under (drop (i + 1) points) name ≡ false → owns points i name ≡ true
  last_here here none =
      ap (λ o. option_eq nat_eq o (Some i)) (sym (owner_of-last points name rise i point within is here (none_behind none)))
      ∙ eq-eqb i i refl

  owns-is : owns points i name ≡ (is_at_or_below point name && not (is_under (drop (i + 1) points) name))
  owns-is = by (is_at_or_below point name) refl (is_under (drop (i + 1) points) name) refl
    where
      by : (a : Bool) → is_at_or_below point name ≡ a → (b : Bool) → is_under (drop (i + 1) points) name ≡ b
          → owns points i name ≡ (a && not b)
      by true here true under = overtaken here under
      by true here false none = last_here here none
      by false elsewhere b _ = beside elsewhere

-- ---- the points below a point stand together behind it

same_or_less : (k m : ℕ) → k ≤ m → (k ≡ m) ⊎ (k < m)
same_or_less k m le = elim (cases_Bool (leb m k)) [
  | inl most ↦ let back = leb-true m k most in inl (omega (arith, le, back))
  | inr less ↦ inr (let above = leb-false m k less in omega (arith, above))
]

-- a name behind another one is not before it
not_before : (a b : Name) → name_cmp a b ≡ Less → is_lt (name_cmp b a) ≡ false
not_before a b less = ap is_lt (name_cmp_total.antisymm b a ∙ ap ordering_reverse less)

-- of two names at or above a third, the later is at or below the earlier
nested : (above below name : Name) → is_at_or_below above name ≡ true → is_at_or_below below name ≡ true
    → name_cmp above below ≡ Less
    → is_at_or_below above below ≡ true
nested above below name here there less =
    elim (name_cmp below name) as (λ r. name_cmp below name ≡ r → is_at_or_below above below ≡ true) [
      | Less ↦ λ is. true_of _ (at_or_below-between above below name (subst T (sym here) tt) is (not_before above below less))
      | Equal ↦ λ is. ap (is_at_or_below above) (name_cmp-IsAntisymmetric below name is) ∙ here
      | Greater ↦ λ is.
          let turned : name_cmp name below ≡ Less = name_cmp_total.antisymm name below ∙ ap ordering_reverse is in
          let clash : true ≡ false = sym (ap is_lt turned) ∙ at_or_below-not_before below name (subst T (sym there) tt) in
          absurd cc
    ] refl

module _ (points : List Name) (rise : IsStrictlySortedBy name_cmp points) (i k : ℕ) (point : Name) (before : i < k) (within : k < length points) (is : point ≡ get_or points i point) where
  -- where the one at a place is not below a point before it, none from there on is at or above a name below that point
  none_from : is_at_or_below point (get_or points k point) ≡ false → (name : Name) → is_at_or_below point name ≡ true
      → (m : ℕ) → k ≤ m → m < length points → is_at_or_below (get_or points m point) name ≡ false
  none_from other name here m le lt = false_from_ne_true _ (λ there.
      let later : name_cmp point (get_or points m point) ≡ Less = ap (λ p. name_cmp p (get_or points m point)) is ∙ Less-from_sorted name_cmp points i m point rise (omega (arith, before, le)) lt in
      let below : is_at_or_below point (get_or points m point) ≡ true = nested point (get_or points m point) name here there later in
      true≢false (sym (between m le lt below) ∙ other))
    where
      behind : is_lt (name_cmp (get_or points k point) point) ≡ false
      behind =
          not_before point (get_or points k point) (ap (λ p. name_cmp p (get_or points k point)) is ∙ Less-from_sorted name_cmp points i k point rise before within)

      between : (m : ℕ) → k ≤ m → m < length points → is_at_or_below point (get_or points m point) ≡ true
          → is_at_or_below point (get_or points k point) ≡ true
      between m le lt below = elim (same_or_less k m le) [
        | inl same ↦ ap (λ n. is_at_or_below point (get_or points n point)) same ∙ below
        | inr less ↦ true_of _ (at_or_below-between point (get_or points k point) (get_or points m point) (subst T (sym below) tt) (Less-from_sorted name_cmp points k m point rise less lt) behind)
      ]

-- ---- the keys, point by point

module _ (points : List Name) (i : ℕ) (point : Name) (keys : KeyMap) where
  -- the keys at or below the point of a mount, without those at or below some others
  abbrev pub IsLeft : List Name → KeyMap → Type 0
  IsLeft others left =
      (name : Name) → map.get left name ≡ cond (is_at_or_below point name && not (is_under others name)) (map.get keys name) None

  pub left-all : (left : KeyMap) → left ≡ at_or_below point keys → IsLeft [] left
  left-all left made name =
      ap (λ m. map.get m name) made
      ∙ get-retain name_cmp_total name_cmp-IsAntisymmetric keys (is_at_or_below point) name
      ∙ by (is_at_or_below point name)
    where
      by : (a : Bool) → cond a (map.get keys name) None ≡ cond (a && not false) (map.get keys name) None
      by true = refl
      by false = refl

  -- one point more
  pub left-next : (others : List Name) (k : ℕ) (other : Name) (left next : KeyMap) → k < length others
      → other ≡ get_or others k other → IsLeft (take k others) left → next ≡ not_below other left
      → IsLeft (take (k + 1) others) next
  left-next others k other left next lt there so_far cut name =
      ap (λ m. map.get m name) cut
      ∙ get-retain name_cmp_total name_cmp-IsAntisymmetric left (λ n. not (is_at_or_below other n)) name
      ∙ ap (λ o. cond (not (is_at_or_below other name)) o None) (so_far name)
      ∙ by (is_at_or_below point name) (is_under (take k others) name) (is_at_or_below other name) (map.get keys name)
      ∙ ap (λ b. cond (is_at_or_below point name && not b) (map.get keys name) None) more
    where
      by : (a b c : Bool) (o : Option Entry)
          → cond (not c) (cond (a && not b) o None) None ≡ cond (a && not (b || c)) o None
      by true true true o = refl
      by true true false o = refl
      by true false true o = refl
      by true false false o = refl
      by false b true o = refl
      by false b false o = refl

      more : (is_under (take k others) name || is_at_or_below other name) ≡ is_under (take (k + 1) others) name
      more =
          ap (λ p. is_under (take k others) name || is_at_or_below p name) there
          ∙ sym (list_any_more (λ p. is_at_or_below p name) others k other lt)

  -- behind a point that is not below the mount's there is none of which a key of it is at or below
  pub left-rest : (k : ℕ) (other : Name) (left : KeyMap) → IsStrictlySortedBy name_cmp points → i < length points
      → point ≡ get_or points i point
      → k < length (drop (i + 1) points) → other ≡ get_or (drop (i + 1) points) k other
      → is_at_or_below point other ≡ false
      → IsLeft (take k (drop (i + 1) points)) left → IsLeft (drop (i + 1) points) left
  left-rest k other left rise within is lt there elsewhere so_far name =
      so_far name ∙ by (is_at_or_below point name) refl
    where
      others : List Name
      others = drop (i + 1) points

      place : ℕ
      place = (i + 1) + k

      bound : place < length points
      bound = omega (arith, lt, length-drop (i + 1) points)

      at_place : is_at_or_below point (get_or points place point) ≡ false
      at_place =
          ap (is_at_or_below point) (sym (there ∙ get_or_default others k other point lt ∙ get_or-drop (i + 1) points k point))
          ∙ elsewhere

      none : is_at_or_below point name ≡ true → is_under (drop k others) name ≡ false
      none here = false_from_ne_true _ (λ some.
          let found = place_of (λ p. is_at_or_below p name) (drop k others) point some in
          let at : get_or (drop k others) found.0 point ≡ get_or points ((i + 1) + (k + found.0)) point = get_or-drop k others found.0 point ∙ get_or-drop (i + 1) points (k + found.0) point in
          let free = none_from points rise i place point (omega arith) bound is at_place name here ((i + 1) + (k + found.0)) (omega arith)
          (omega (arith, found.1, length-drop k others, length-drop (i + 1) points, lt)) in
          true≢false (sym found.2 ∙ ap (λ p. is_at_or_below p name) at ∙ free))

      no_more : (b : Bool) → (b || false) ≡ b
      no_more true = refl
      no_more false = refl

      same : is_at_or_below point name ≡ true → is_under (take k others) name ≡ is_under others name
      same here =
          sym (no_more (is_under (take k others) name))
          ∙ ap (λ b. is_under (take k others) name || b) (sym (none here))
          ∙ sym (list_any-append (λ p. is_at_or_below p name) (take k others) (drop k others))
          ∙ ap (λ ps. is_under ps name) (take-append-drop k others)

      by : (a : Bool) → is_at_or_below point name ≡ a
          → cond (a && not (is_under (take k others) name)) (map.get keys name) None
          ≡ cond (a && not (is_under others name)) (map.get keys name) None
      by true here = ap (λ b. cond (not b) (map.get keys name) None) (same here)
      by false here = refl

  -- without those of all points behind, they are what the mount owns
  pub left-owned : (left : KeyMap) → IsStrictlySortedBy name_cmp points → i < length points
      → point ≡ get_or points i point → IsLeft (drop (i + 1) points) left → left ≡ owned_by points i keys
  left-owned left rise within is so_far = map.same_map name_cmp_total name_cmp-IsAntisymmetric left (owned_by points i keys) (λ name.
      so_far name
      ∙ ap (λ b. cond b (map.get keys name) None) (sym (owns-is points rise i point within is name))
      ∙ sym (get-retain name_cmp_total name_cmp-IsAntisymmetric keys (owns points i) name))

-- two names that were read at one place are one
pub same_place : (points : List Name) (i : ℕ) (one other : Name) → i < length points → one ≡ get_or points i one
    → other ≡ get_or points i other → one ≡ other
same_place points i one other lt first second = first ∙ get_or_default points i one other lt ∙ sym second

-- a mount that is not there owns none
pub owned-beyond : (points : List Name) (i : ℕ) (keys none : KeyMap) → length points ≤ i → none ≡ no_keys
    → none ≡ owned_by points i keys
owned-beyond points i keys none le is = map.same_map name_cmp_total name_cmp-IsAntisymmetric none (owned_by points i keys) (λ name.
    ap (λ m. map.get m name) is
    ∙ map.get-empty name_cmp name
    ∙ ap (λ b. cond b (map.get keys name) None) (sym (owns-beyond points i name le))
    ∙ sym (get-retain name_cmp_total name_cmp-IsAntisymmetric keys (owns points i) name))
