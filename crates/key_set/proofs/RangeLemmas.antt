-- Where the keys at or below a name begin and end.
use Rattle.std.proofs.Common.{◌≡◌, ℕ, ◌+◌, ◌-◌, zero, suc, ◌<◌, ◌≤◌, Bool, true, false, T, not, ◌||◌, List, length, take, drop, get_or, Some, slice_get, slice_range, refl, sym, ap, ◌∙◌, inl, inr, [], ◌∷◌, true≢false, arith}
use Rattle.std.specs.FinMap.{is_sorted}
use Rattle.std.specs.FinMap.Entries.{where_key}
use Rattle.std.specs.List.{remove_range, list_all}
use Rattle.std.specs.List.Sorted.{IsPartitionedBy, IsPartitionPoint}
use Rattle.std.specs.Ordering.{is_lt}
use Rattle.std.specs.declared.cmp.Ordering.TheVariants.{Less}
use Rattle.std.proofs.lemmas.Bool.{cases_lt, or_right}
use Rattle.model_names.specs.Below.{is_at_or_below}
use Rattle.model_names.specs.Name.{Name}
use Rattle.model_names.specs.Order.{name_cmp}
use Rattle.model_names.proofs.OrderLemmas.{name_cmp_total}
use Rattle.model_names.proofs.BelowOrder.{at_or_below-not_before, at_or_below-between}
use Rattle.sorted_map.proofs.RangeLemmas.{where_key-range, where_key-rest, parts_in_two}
use Rattle.general_words.proofs.Tests.{first, second, true_of, true_is, not_is}
use Rattle.general_words.proofs.Orders.{less}
use Rattle.general_words.proofs.Lists.{same_default}
use Rattle.chunked_map.specs.Chunks.{all_before, none_before}

or_second : (a b : Bool) → a ≡ false → (a || b) ≡ b
or_second true b e = absurd cc
or_second false b e = refl

neither : (a b : Bool) → (a || b) ≡ false → b ≡ false
neither true b e = absurd cc
neither false b e = e

module _ (above : Name) where
  -- before the name, and not behind the names at or below it
  abbrev pub is_before : Name → Bool
  is_before name = is_lt (name_cmp name above)

  abbrev pub is_not_behind : Name → Bool
  is_not_behind name = is_lt (name_cmp name above) || is_at_or_below above name

  before_closed : (x y : Name) → name_cmp x y ≡ Less → is_before y ≡ true → is_before x ≡ true
  before_closed x y nearer before = ap is_lt (name_cmp_total.trans x y above nearer (less _ (true_is _ before)))

  not_behind_closed : (x y : Name) → name_cmp x y ≡ Less → is_not_behind y ≡ true → is_not_behind x ≡ true
  not_behind_closed x y nearer h =
      elim (is_before x) as (λ b. is_before x ≡ b → (b || is_at_or_below above x) ≡ true) [
        | true ↦ λ p. refl
        | false ↦ λ p. elim (is_before y) as (λ b. is_before y ≡ b → (b || is_at_or_below above y) ≡ true → is_at_or_below above x ≡ true) [
          | true ↦ λ q k. absurd (cc (p, before_closed x y nearer q))
          | false ↦ λ q k. true_of _ (at_or_below-between above x y (true_is _ k) nearer p)
        ] refl h
      ] refl

  -- none before the name is at or below it
  before_is_outside : (name : Name) → is_before name ≡ true → is_at_or_below above name ≡ false
  before_is_outside name before =
      elim (is_at_or_below above name) as (λ b. is_at_or_below above name ≡ b → b ≡ false) [
        | true ↦ λ p. absurd (cc (before, at_or_below-not_before above name (true_is _ p)))
        | false ↦ λ p. refl
      ] refl

  module _ {X : Type 0} (es : List (Name × X)) (h : T (is_sorted name_cmp es)) where
    parted_behind : IsPartitionedBy (λ e. is_not_behind e.0) es
    parted_behind = parts_in_two name_cmp es h is_not_behind not_behind_closed

    abbrev pub PartsBy : (Name → Bool) → ℕ → Type 0
    PartsBy p i = IsPartitionPoint (λ e. p e.0 ≡ true) (λ e. p e.0 ≡ false) es i

    module _ (from to : ℕ) (in_range : from ≤ length es) (begins : PartsBy is_before from) (ends : PartsBy is_not_behind to) where
      before_outside : (k : ℕ) (d : Name × X) → k < from → k < length es
          → is_at_or_below above (get_or es k d).0 ≡ false
      before_outside k d lt in_list = before_is_outside _ (begins.0 k d (omega arith) lt)

      within_inside : (k : ℕ) (d : Name × X) → from ≤ k → k < to → k < length es
          → is_at_or_below above (get_or es k d).0 ≡ true
      within_inside k d le lt in_list = sym (or_second _ _ (begins.1 k d le in_list)) ∙ ends.0 k d (omega arith) lt

      behind_outside : (k : ℕ) (d : Name × X) → to ≤ k → k < length es → is_at_or_below above (get_or es k d).0 ≡ false
      behind_outside k d le in_list = neither _ _ (ends.1 k d le in_list)

      pub inside_range : from ≤ to → where_key name_cmp (is_at_or_below above) es ≡ slice_range es from to
      inside_range le =
          where_key-range name_cmp (is_at_or_below above) es from to le before_outside within_inside behind_outside

      pub outside_range : from ≤ to
          → where_key name_cmp (λ name. not (is_at_or_below above name)) es ≡ remove_range es from to
      outside_range le = where_key-rest name_cmp (λ name. not (is_at_or_below above name)) es from to le
          (λ k d lt in_list. ap not (before_outside k d lt in_list)) (λ k d ge lt in_list. ap not (within_inside k d ge lt in_list)) (λ k d ge in_list. ap not (behind_outside k d ge in_list))

-- what a list of tests says of each key
all_at : {A : Type 0} (p : A → Bool) (es : List A) (n k : ℕ) (d : A) → T (list_all p (take n es)) → k < n
    → k < length es → p (get_or es k d) ≡ true
all_at p [] n k d h lt in_list = absurd (omega arith)
all_at p (e ∷ es) zero k d h lt in_list = absurd (omega arith)
all_at p (e ∷ es) (suc n) zero d h lt in_list = true_of _ (first _ _ h)
all_at p (e ∷ es) (suc n) (suc k) d h lt in_list = all_at p es n k d (second _ _ h) (omega arith) (omega arith)

all_from : {A : Type 0} (p : A → Bool) (es : List A) (n k : ℕ) (d : A) → T (list_all p (drop n es)) → n ≤ k
    → k < length es → p (get_or es k d) ≡ true
all_from p [] n k d h le in_list = absurd (omega arith)
all_from p (e ∷ es) zero zero d h le in_list = true_of _ (first _ _ h)
all_from p (e ∷ es) zero (suc k) d h le in_list = all_from p es zero k d (second _ _ h) (omega arith) (omega arith)
all_from p (e ∷ es) (suc n) zero d h le in_list = absurd (omega arith)
all_from p (e ∷ es) (suc n) (suc k) d h le in_list = all_from p es n k d h (omega arith) (omega arith)

-- the first of the keys from a place on
module _ {A : Type 0} where
  more_left : (es : List A) (n : ℕ) (e : A) (rest : List A) → drop n es ≡ e ∷ rest → n < length es
  more_left [] zero e rest is = absurd cc
  more_left [] (suc n) e rest is = absurd cc
  more_left (f ∷ es) zero e rest is = omega arith
  more_left (f ∷ es) (suc n) e rest is = let more = more_left es n e rest is in omega arith

  next_is : (es : List A) (n : ℕ) (e : A) (rest : List A) (d : A) → drop n es ≡ e ∷ rest → get_or es n d ≡ e
  next_is [] zero e rest d is = absurd cc
  next_is [] (suc n) e rest d is = absurd cc
  next_is (f ∷ es) zero e rest d is = ap (λ fs. get_or fs 0 d) is
  next_is (f ∷ es) (suc n) e rest d is = next_is es n e rest d is

  rest_is : (es : List A) (n : ℕ) (e : A) (rest : List A) → drop n es ≡ e ∷ rest → rest ≡ drop (suc n) es
  rest_is [] zero e rest is = absurd cc
  rest_is [] (suc n) e rest is = absurd cc
  rest_is (f ∷ es) zero e rest is = sym (ap (drop 1) is)
  rest_is (f ∷ es) (suc n) e rest is = rest_is es n e rest is

  none_to_come : (es : List A) (n : ℕ) → drop n es ≡ [] → n ≤ length es → n ≡ length es
  none_to_come [] zero is le = refl
  none_to_come [] (suc n) is le = absurd (omega arith)
  none_to_come (f ∷ es) zero is le = absurd cc
  none_to_come (f ∷ es) (suc n) is le = ap suc (none_to_come es n is (omega arith))

-- keys before a name's place are before it and the others are not; from there on they are at or below it as far as a
-- second place
module _ (above : Name) {X : Type 0} (es : List (Name × X)) (h : T (is_sorted name_cmp es)) (from to : ℕ) (order : from ≤ to) (within : to ≤ length es)
    (before : T (all_before name_cmp above (take from es))) (behind : T (none_before name_cmp above (drop from es)))
    (below : (k : ℕ) (d : Name × X) → from ≤ k → k < to → k < length es → is_at_or_below above (get_or es k d).0 ≡ true) where
  pub begins : PartsBy above es h (is_before above) from
  begins = (
    λ k d le lt. all_at (λ e. is_before above e.0) es from k d before lt (omega arith),
    λ k d le in_list. not_is _ (all_from (λ e. not (is_before above e.0)) es from k d behind le in_list),
  )

  up_to : (k : ℕ) (d : Name × X) → k < to → k < length es → is_not_behind above (get_or es k d).0 ≡ true
  up_to k d lt in_list = elim (cases_lt k from) [
    | inl early ↦ ap (λ b. b || is_at_or_below above (get_or es k d).0) (begins.0 k d (omega arith) early)
    | inr late ↦ or_second _ _ (begins.1 k d late in_list) ∙ below k d late lt in_list
  ]

  -- the key at the second place is not at or below the name, and so none behind it is
  none_behind : (d : Name × X) → is_at_or_below above (get_or es to d).0 ≡ false → to < length es
      → (k : ℕ) (e : Name × X) → to ≤ k → k < length es → is_not_behind above (get_or es k e).0 ≡ false
  none_behind d none in_list k e le within =
      elim (is_not_behind above (get_or es k e).0) as (λ b. is_not_behind above (get_or es k e).0 ≡ b → b ≡ false) [
        | true ↦ λ p.
            let there : is_not_behind above (get_or es to e).0 ≡ true = parted_behind above es h to k e le within p in
            let fails : is_not_behind above (get_or es to e).0 ≡ false = or_second _ _ (begins.1 to e order in_list) ∙ ap (λ key. is_at_or_below above key.0) (same_default es to e d in_list) ∙ none in
            absurd (true≢false (sym there ∙ fails))
        | false ↦ λ p. refl
      ] refl

  module _ (ends : (k : ℕ) (e : Name × X) → to ≤ k → k < length es → is_not_behind above (get_or es k e).0 ≡ false) where
    inside_of : where_key name_cmp (is_at_or_below above) es ≡ slice_range es from to
    inside_of =
        inside_range above es h from to (omega arith) begins (λ k d le lt. up_to k d lt (omega arith), ends) order

    outside_of : where_key name_cmp (λ name. not (is_at_or_below above name)) es ≡ remove_range es from to
    outside_of =
        outside_range above es h from to (omega arith) begins (λ k d le lt. up_to k d lt (omega arith), ends) order

  -- where the second place is the end
  pub inside_to_end : length es ≤ to → where_key name_cmp (is_at_or_below above) es ≡ slice_range es from to
  inside_to_end all = inside_of (λ k d le in_list. absurd (omega arith))

  pub outside_to_end : length es ≤ to
      → where_key name_cmp (λ name. not (is_at_or_below above name)) es ≡ remove_range es from to
  outside_to_end all = outside_of (λ k d le in_list. absurd (omega arith))

  module _ (e : Name × X) (rest : List (Name × X)) (comes : drop to es ≡ e ∷ rest) where
    -- where a key comes that is not at or below the name
    module _ (none : is_at_or_below above e.0 ≡ false) where
      stops : (k : ℕ) (d : Name × X) → to ≤ k → k < length es → is_not_behind above (get_or es k d).0 ≡ false
      stops =
          none_behind e (ap (λ key. is_at_or_below above key.0) (next_is es to e rest e comes) ∙ none) (more_left es to e rest comes)

      pub inside_found : where_key name_cmp (is_at_or_below above) es ≡ slice_range es from to
      inside_found = inside_of stops

      pub outside_found : where_key name_cmp (λ name. not (is_at_or_below above name)) es ≡ remove_range es from to
      outside_found = outside_of stops

    -- where one comes that is
    pub below_more : is_at_or_below above e.0 ≡ true → (k : ℕ) (d : Name × X) → from ≤ k → k < to + 1 → k < length es
        → is_at_or_below above (get_or es k d).0 ≡ true
    below_more there k d le lt in_list = elim (cases_lt k to) [
      | inl early ↦ below k d le early in_list
      | inr late ↦ let same : k ≡ to = omega arith in ap (λ n. is_at_or_below above (get_or es n d).0) same ∙ ap (λ key. is_at_or_below above key.0) (next_is es to e rest d comes) ∙ there
    ]

    pub to_come : (n : ℕ) → n ≡ suc to → rest ≡ drop n es
    to_come n next = rest_is es to e rest comes ∙ ap (λ m. drop m es) (sym next)

    pub one_more : to < length es
    one_more = more_left es to e rest comes

  -- where no key comes
  module _ (comes : drop to es ≡ []) where
    at_end : (k : ℕ) (d : Name × X) → to ≤ k → k < length es → is_not_behind above (get_or es k d).0 ≡ false
    at_end k d le in_list = let all = none_to_come es to comes within in absurd (omega arith)

    pub inside_all : where_key name_cmp (is_at_or_below above) es ≡ slice_range es from to
    inside_all = inside_of at_end

    pub outside_all : where_key name_cmp (λ name. not (is_at_or_below above name)) es ≡ remove_range es from to
    outside_all = outside_of at_end

-- the key at a place
pub key_there : {A : Type 0} (es : List A) (n : ℕ) (e d : A) → Some e ≡ slice_get es n → get_or es n d ≡ e
key_there [] n e d there = absurd cc
key_there (f ∷ es) zero e d there = cc
key_there (f ∷ es) (suc n) e d there = key_there es n e d there

-- where the last key is at or below a name, so are all from the name's place on
pub below_to_end : (above : Name) {X : Type 0} (es : List (Name × X)) (h : T (is_sorted name_cmp es)) (from : ℕ)
    (within : from ≤ length es)
    (before : T (all_before name_cmp above (take from es))) (behind : T (none_before name_cmp above (drop from es)))
    → ((d : Name × X) → is_at_or_below above (get_or es (length es - 1) d).0 ≡ true)
    → (k : ℕ) (d : Name × X) → from ≤ k → k < length es → is_at_or_below above (get_or es k d).0 ≡ true
below_to_end above es h from within before behind last k d le in_list =
    let starts : PartsBy above es h (is_before above) from = begins above es h from from (omega arith) within before behind (λ j e ge lt in_es. absurd (omega arith)) in
    let end : is_not_behind above (get_or es (length es - 1) d).0 ≡ true = or_right _ _ (last d) in
    sym (or_second _ _ (starts.1 k d le in_list))
    ∙ parted_behind above es h k (length es - 1) d (omega arith) (omega arith) end
