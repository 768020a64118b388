-- Points at or above one name are fronts of each other, so in name order the last of them is the longest.
use Rattle.std.proofs.Common.{◌≡◌, ℕ, ◌+◌, ◌-◌, ◌<◌, ◌≤◌, Bool, true, false, cond, not, leb, nat_lt, true≢false, ◌||◌, nat_eq, List, [], ◌∷◌, length, get_or, Some, None, sym, ap, ap₂, ◌∙◌, inl, inr, ◌⊎◌, arith}
use Rattle.std.specs.Cmp.{tied_itself}
use Rattle.std.specs.Cmp.Lexicographic.{slice_cmp, pointwise}
use Rattle.std.specs.List.{position, starts_with}
use Rattle.std.specs.List.Sorted.{IsStrictlySortedBy}
use Rattle.std.specs.Ordering.{nat_cmp, ordering_then}
use Rattle.std.specs.declared.cmp.Ordering.TheVariants.{Less, Equal}
use Rattle.std.proofs.lemmas.Bool.{and_parts, and_from, and_left, and_right, or_left, or_right, or_from, cases_Bool, cases_order, cond-true, cond-false, eqb-true, le-leb, leb-true, lt-ltb, ltb-true, false_from_ne_true, not_from_true, not_from_false}
use Rattle.std.proofs.lemmas.Cmp.{nat_cmp_total, nat_list_cmp_total}
use Rattle.std.proofs.lemmas.List.{get_or_default}
use Rattle.std.proofs.lemmas.List.Folds.{list_all_at}
use Rattle.std.proofs.lemmas.List.Sums.{prefix_len_is, list_all-from_AllPass}
use Rattle.std.proofs.lemmas.Map.Keys.{Less-from_sorted, sorted_from_all_adjacent}
use Rattle.std.proofs.lemmas.Slice.Eq.{bytes_eq-Decides}
use Rattle.model_names.specs.declared.namespaces.Namespace.TheVariants.{Cascading}
use Rattle.model_names.specs.Below.{is_at_or_below}
use Rattle.model_names.specs.Name.{Name, Part, rank}
use Rattle.model_names.specs.Order.{name_cmp, part_cmp}
use Rattle.model_names.proofs.OrderLemmas.{name_cmp_total}
use Rattle.key_name.specs.Owner.{is_longest, owner_of}

-- ---- fronts

same_part : (x y : Part) → pointwise nat_eq x y ≡ true → x ≡ y
same_part x y h = (bytes_eq-Decides x y).0 h

-- of two fronts of one list, the smaller is the shorter
fronts : (zs ws xs : List Part) → starts_with (pointwise nat_eq) xs zs ≡ true
    → starts_with (pointwise nat_eq) xs ws ≡ true → slice_cmp part_cmp zs ws ≡ Less → length zs < length ws
fronts [] [] xs p q less = absurd cc
fronts [] (w ∷ ws) xs p q less = omega arith
fronts (z ∷ zs) [] xs p q less = absurd cc
fronts (z ∷ zs) (w ∷ ws) [] p q less = absurd cc
fronts (z ∷ zs) (w ∷ ws) (x ∷ xs) p q less =
    let first = and_parts (pointwise nat_eq z x) (starts_with (pointwise nat_eq) xs zs) p in
    let second = and_parts (pointwise nat_eq w x) (starts_with (pointwise nat_eq) xs ws) q in
    let one : z ≡ w = same_part z x first.0 ∙ sym (same_part w x second.0) in
    let tie : part_cmp z w ≡ Equal = ap (part_cmp z) (sym one) ∙ tied_itself nat_list_cmp_total z in
    let rest = fronts zs ws xs first.1 second.1 (sym (ap (λ r. ordering_then r (slice_cmp part_cmp zs ws)) tie) ∙ less) in
    omega arith

-- of two points at or above one name, the smaller is the shorter
pub shorter : (name a b : Name) → is_at_or_below a name ≡ true → is_at_or_below b name ≡ true → name_cmp a b ≡ Less
    → length a.parts < length b.parts
shorter name a b p q less =
    let first = and_parts (nat_eq (rank name.namespace) (rank a.namespace)) (starts_with (pointwise nat_eq) name.parts a.parts) p in
    let second = and_parts (nat_eq (rank name.namespace) (rank b.namespace)) (starts_with (pointwise nat_eq) name.parts b.parts) q in
    let ranks : rank a.namespace ≡ rank b.namespace = sym (eqb-true _ _ first.0) ∙ eqb-true _ _ second.0 in
    let tie : nat_cmp (rank a.namespace) (rank b.namespace) ≡ Equal = ap (nat_cmp (rank a.namespace)) (sym ranks) ∙ tied_itself nat_cmp_total (rank a.namespace) in
    fronts a.parts b.parts name.parts first.1 second.1 (sym (ap (λ r. ordering_then r (slice_cmp part_cmp a.parts b.parts)) tie) ∙ less)

-- ---- order

-- names ascend where each comes before the next
pub ascending : (names : List Name)
    → ((k : ℕ) (d : Name) → k + 1 < length names → name_cmp (get_or names k d) (get_or names (k + 1) d) ≡ Less)
    → IsStrictlySortedBy name_cmp names
ascending names next =
    let root : Name = record { namespace = Cascading; parts = [] } in sorted_from_all_adjacent name_cmp_total names root (λ k lt. next k root lt)

-- two neighbours, as they were read
pub neighbours : (names : List Name) (i : ℕ) (a b : Name) → i < length names → a ≡ get_or names (i - 1) a
    → b ≡ get_or names i b → name_cmp a b ≡ Less → (k : ℕ) (d : Name) → k + 1 ≡ i
    → name_cmp (get_or names k d) (get_or names (k + 1) d) ≡ Less
neighbours names i a b within p q less k d next =
    let before : i - 1 ≡ k = omega arith in
    let first : get_or names k d ≡ a = get_or_default names k d a (omega arith) ∙ ap (λ n. get_or names n a) (sym before) ∙ sym p in
    let second : get_or names (k + 1) d ≡ b = ap (λ n. get_or names n d) next ∙ get_or_default names i d b within ∙ sym q in
    ap₂ name_cmp first second ∙ less

pub neighbours_rise : (names : List Name) (i : ℕ) (a b : Name) → 0 < i → i < length names → a ≡ get_or names (i - 1) a
    → b ≡ get_or names i b → IsStrictlySortedBy name_cmp names → name_cmp a b ≡ Less
neighbours_rise names i a b some within p q rise =
    ap₂ name_cmp p (q ∙ get_or_default names i b a within)
    ∙ Less-from_sorted name_cmp names (i - 1) i a rise (omega arith) within

-- ---- places

-- the first place that passes
pub position_is : {A : Type 0} (p : A → Bool) (xs : List A) (i : ℕ) (d : A) → i < length xs
    → ((k : ℕ) → k < i → p (get_or xs k d) ≡ false) → p (get_or xs i d) ≡ true → position p xs ≡ Some i
position_is p xs i d within before here =
    let place = prefix_len_is (λ x. not (p x)) xs i d (omega arith) (λ k lt. not_from_false _ (before k lt)) (λ _. not_from_true _ here) in
    ap (λ n. cond (nat_lt n (length xs)) (Some n) None) place ∙ cond-true _ _ _ (lt-ltb i (length xs) within)

pub position_none : {A : Type 0} (p : A → Bool) (xs : List A) (d : A)
    → ((k : ℕ) → k < length xs → p (get_or xs k d) ≡ false) → position p xs ≡ None
position_none p xs d none =
    let place = prefix_len_is (λ x. not (p x)) xs (length xs) d (omega arith) (λ k lt. not_from_false _ (none k lt)) (λ lt. absurd (omega arith)) in
    ap (λ n. cond (nat_lt n (length xs)) (Some n) None) place
    ∙ cond-false _ _ _ (false_from_ne_true _ (λ e. let lt = ltb-true (length xs) (length xs) e in omega arith))

-- ---- the longest

-- a point at or above the name, behind which none stands that is
module _ (points : List Name) (name : Name) (rise : IsStrictlySortedBy name_cmp points) (i : ℕ) (point : Name) (within : i < length points) (is : point ≡ get_or points i point) (here : is_at_or_below point name ≡ true) (behind : (k : ℕ) (d : Name) → i + 1 ≤ k → k < length points → is_at_or_below (get_or points k d) name ≡ false) where
  -- one before it is shorter
  before_shorter : (k : ℕ) → k < i → is_at_or_below (get_or points k point) name ≡ true
      → length (get_or points k point).parts < length point.parts
  before_shorter k lt above =
      shorter name (get_or points k point) point above here (ap (name_cmp (get_or points k point)) is ∙ Less-from_sorted name_cmp points k i point rise lt within)

  -- none is longer
  at_most : (k : ℕ) (d : Name) → k < length points → is_at_or_below (get_or points k d) name ≡ true
      → length (get_or points k d).parts ≤ length point.parts
  at_most k d lt above = by (cases_order k i)
    where
      by : (k ≡ i) ⊎ ((k < i) ⊎ (i < k)) → length (get_or points k d).parts ≤ length point.parts
      by (inl same) =
          let one : get_or points k d ≡ point = get_or_default points k d point lt ∙ ap (λ n. get_or points n point) same ∙ sym is in
          omega (arith, ap (λ (n : Name). length n.parts) one)
      by (inr (inl before)) =
          let one : get_or points k d ≡ get_or points k point = get_or_default points k d point lt in
          omega (arith, ap (λ (n : Name). length n.parts) one, before_shorter k before (ap (λ n. is_at_or_below n name) (sym one) ∙ above))
      by (inr (inr after)) = absurd (true≢false (sym above ∙ behind k d (omega arith) lt))

  longest : is_longest points name point ≡ true
  longest = and_from (is_at_or_below point name) _ here (list_all-from_AllPass (λ other. not (is_at_or_below other name) || leb (length other.parts) (length point.parts)) points (λ k d lt.
      elim (cases_Bool (is_at_or_below (get_or points k d) name)) [
        | inl above ↦ or_right (not (is_at_or_below (get_or points k d) name)) _ (le-leb _ _ (at_most k d lt above))
        | inr beside ↦ or_left (not (is_at_or_below (get_or points k d) name)) _ (not_from_false _ beside)
      ]))

  -- one before it is not the longest, since this one is longer
  not_longest : (k : ℕ) → k < i → is_longest points name (get_or points k point) ≡ false
  not_longest k lt =
      elim (cases_Bool (is_at_or_below (get_or points k point) name)) [
        | inl above ↦ and_right (is_at_or_below (get_or points k point) name) _ (list_all_at (λ other. not (is_at_or_below other name) || leb (length other.parts) (length (get_or points k point).parts)) points i point within
            (or_from (not (is_at_or_below (get_or points i point) name)) _ (not_from_true _ (ap (λ n. is_at_or_below n name) (sym is) ∙ here)) (false_from_ne_true _ (λ e. let le = leb-true _ _ e in omega (arith, ap (λ (n : Name). length n.parts) is, before_shorter k lt above)))))
        | inr beside ↦ and_left (is_at_or_below (get_or points k point) name) _ beside
      ]

  -- so it is the owner
  pub owner_of-last : Some i ≡ owner_of points name
  owner_of-last =
      sym (position_is (is_longest points name) points i point within not_longest (ap (is_longest points name) (sym is) ∙ longest))

-- where no point is at or above the name, it has no owner
pub owner_of-none : (points : List Name) (name : Name)
    → ((k : ℕ) (d : Name) → k < length points → is_at_or_below (get_or points k d) name ≡ false)
    → owner_of points name ≡ None
owner_of-none points name none =
    position_none (is_longest points name) points name (λ k lt. and_left (is_at_or_below (get_or points k name) name) _ (none k name lt))
