-- Names in their order are those of a list alone: two such lists with the same names are one.
use Rattle.std.specs.Prelude.{◌≡◌, ◌⊎◌, ◌<◌, ◌||◌, ℕ, suc, zero, Bool, true, false, List, [], ◌∷◌, length, filter, cond, slice_index_or}
use Rattle.std.proofs.Common.{refl, sym, ap, subst, ◌∙◌, inl, inr, arith}
use Rattle.std.specs.List.{AllByRecursion, Contains, list_any}
use Rattle.std.specs.List.Sorted.{IsStrictlySortedBy}
use Rattle.std.specs.Ordering.{eq_by_cmp}
use Rattle.std.specs.declared.cmp.Ordering.TheVariants.{Less, Greater}
use Rattle.std.proofs.lemmas.Map.Keys.{sorted_head, sorted_tail}
use Rattle.general_words.proofs.Lookups.{tied_or_not}
use Rattle.general_words.proofs.Orders.{turned}
use Rattle.model_names.specs.Name.{Name}
use Rattle.model_names.specs.Order.{name_cmp}
use Rattle.model_names.proofs.OrderLemmas.{name_cmp_total, name_cmp-IsAntisymmetric}

-- ---- being one of some names

abbrev pub Has : List Name → Name → Type 0
Has [] name = ⊥
Has (one ∷ names) name = (one ≡ name) ⊎ Has names name

pub has-contains : (names : List Name) (name : Name) → Contains names name → Has names name
has-contains [] name h = absurd (omega (arith, h.1))
has-contains (one ∷ names) name h = by (has-contains names name) h.0 h.1 h.2
  where
    by : (Contains names name → Has names name) → (k : ℕ) → k < length (one ∷ names)
        → slice_index_or (one ∷ names) k name ≡ name → Has (one ∷ names) name
    by rest zero within is = inl is
    by rest (suc k) within is = inr (rest (k, omega (arith, within), is))

pub contains-has : (names : List Name) (name : Name) → Has names name → Contains names name
contains-has [] name h = absurd h
contains-has (one ∷ names) name (inl is) = (0, omega arith, is)
contains-has (one ∷ names) name (inr h) =
    let rest = contains-has names name h in (suc rest.0, omega (arith, rest.1), rest.2)

-- what holds of all of them
all-has : (P : Name → Type 0) (names : List Name) (name : Name) → AllByRecursion P names → Has names name → P name
all-has P [] name all h = absurd h
all-has P (one ∷ names) name all (inl is) = subst P is all.0
all-has P (one ∷ names) name all (inr h) = all-has P names name all.1 h

-- those that pass a test
pub has-filter : (p : Name → Bool) (names : List Name) (name : Name) → p name ≡ true → Has names name
    → Has (filter p names) name
has-filter p [] name passes h = absurd h
has-filter p (one ∷ names) name passes (inl is) =
    subst (λ b. Has (cond b (one ∷ filter p names) (filter p names)) name) (sym (ap p is ∙ passes)) (inl is)
has-filter p (one ∷ names) name passes (inr h) = by (has-filter p names name passes h) (p one)
  where
    by : Has (filter p names) name → (b : Bool) → Has (cond b (one ∷ filter p names) (filter p names)) name
    by rest true = inr rest
    by rest false = rest

pub filter-has : (p : Name → Bool) (names : List Name) (name : Name) → Has (filter p names) name → p name ≡ true
filter-has p [] name h = absurd h
filter-has p (one ∷ names) name h = by (filter-has p names name) (p one) refl h
  where
    by : (Has (filter p names) name → p name ≡ true) → (b : Bool) → p one ≡ b
        → Has (cond b (one ∷ filter p names) (filter p names)) name → p name ≡ true
    by others true is (inl same) = ap p (sym same) ∙ is
    by others true is (inr rest) = others rest
    by others false is rest = others rest

-- a search finds one
pub has-found : (names : List Name) (name : Name) → list_any (eq_by_cmp name_cmp name) names ≡ true → Has names name
has-found [] name found = absurd cc
has-found (one ∷ names) name found =
    by (has-found names name) (tied_or_not {R = name_cmp} name_cmp-IsAntisymmetric name one)
  where
    by : (list_any (eq_by_cmp name_cmp name) names ≡ true → Has names name)
        → (eq_by_cmp name_cmp name one ≡ false) ⊎ ((eq_by_cmp name_cmp name one ≡ true) × (name ≡ one))
        → Has (one ∷ names) name
    by others (inl differ) = inr (others (sym (ap (λ b. b || list_any (eq_by_cmp name_cmp name) names) differ) ∙ found))
    by others (inr tied) = inl (sym tied.1)

-- ---- in order

clash : (one other : Name) → name_cmp one other ≡ Less → name_cmp other one ≡ Less → ⊥
clash one other is back = let no : Greater ≡ Less = sym (turned name_cmp_total one other Less is) ∙ back in cc

not_below_itself : (name : Name) → name_cmp name name ≡ Less → ⊥
not_below_itself name is = clash name name is is

pub one_list : (xs ys : List Name) → IsStrictlySortedBy name_cmp xs → IsStrictlySortedBy name_cmp ys
    → ((name : Name) → Has xs name → Has ys name) → ((name : Name) → Has ys name → Has xs name) → xs ≡ ys
one_list [] [] xs_rise ys_rise there back = refl
one_list [] (y ∷ ys) xs_rise ys_rise there back = absurd (back y (inl refl))
one_list (x ∷ xs) [] xs_rise ys_rise there back = absurd (there x (inl refl))
one_list (x ∷ xs) (y ∷ ys) xs_rise ys_rise there back =
    ap (λ name. name ∷ xs) same
    ∙ ap (λ names. y ∷ names) (one_list xs ys (sorted_tail name_cmp x xs xs_rise) (sorted_tail name_cmp y ys ys_rise) onward backward)
  where
    above_x : (name : Name) → Has xs name → name_cmp x name ≡ Less
    above_x name h = all-has (λ other. name_cmp x other ≡ Less) xs name (sorted_head name_cmp x xs xs_rise) h

    above_y : (name : Name) → Has ys name → name_cmp y name ≡ Less
    above_y name h = all-has (λ other. name_cmp y other ≡ Less) ys name (sorted_head name_cmp y ys ys_rise) h

    both : (y ≡ x) ⊎ Has ys x → (x ≡ y) ⊎ Has xs y → x ≡ y
    both (inl is) found = sym is
    both (inr behind) (inl is) = is
    both (inr behind) (inr ahead) = absurd (clash x y (above_x y ahead) (above_y x behind))

    same : x ≡ y
    same = both (there x (inl refl)) (back y (inl refl))

    onward : (name : Name) → Has xs name → Has ys name
    onward name h = by (there name (inr h))
      where
        by : (y ≡ name) ⊎ Has ys name → Has ys name
        by (inl is) =
            absurd (not_below_itself x (subst (λ other. name_cmp x other ≡ Less) (sym (same ∙ is)) (above_x name h)))
        by (inr rest) = rest

    backward : (name : Name) → Has ys name → Has xs name
    backward name h = by (back name (inr h))
      where
        by : (x ≡ name) ⊎ Has xs name → Has xs name
        by (inl is) =
            absurd (not_below_itself y (subst (λ other. name_cmp y other ≡ Less) (sym is ∙ same) (above_y name h)))
        by (inr rest) = rest
