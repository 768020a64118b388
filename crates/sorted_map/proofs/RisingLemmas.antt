-- Entries whose keys rise: where a key stands among them, and what it changes to put it there or to take it out.
use Rattle.std.proofs.Common.{◌≡◌, ℕ, zero, suc, ◌-◌, ◌<◌, ◌≤◌, Bool, true, false, cond, not, ◌&&◌, List, [], ◌∷◌, length, get_or, set, Some, None, Result, Ok, Err, IfOk, IfErr, refl, sym, ap, subst, ◌∙◌, inl, inr, arith}
use Rattle.std.specs.Prelude.{T, MatchResult}
use Rattle.std.specs.Cmp.{IsTotalOrder, alike_right, tied_back}
use Rattle.std.specs.FinMap.{find, is_sorted}
use Rattle.std.specs.FinMap.Entries.{below_all, put, where_key, by_order, is_sorted-put}
use Rattle.std.specs.List.{list_all, insert, remove}
use Rattle.std.specs.List.Sorted.{IsSearchInRange, IsBinarySearchResult, IsNonDecreasingBy}
use Rattle.std.specs.Ordering.{eq_by_cmp, is_eq, is_lt, ordering_index, ordering_reverse}
use Rattle.std.specs.declared.cmp.Ordering.{Ordering}
use Rattle.std.specs.declared.cmp.Ordering.TheVariants.{Less, Equal, Greater}
use Rattle.std.proofs.lemmas.Bool.{cases_lt}
use Rattle.sorted_map.specs.Place.{IsPlace, IsGap}
use Rattle.general_words.proofs.Tests.{both, first, second, true_is}
use Rattle.general_words.proofs.Orders.{less}
use Rattle.general_words.proofs.Entries.{below_at, find_nowhere}

index_within : (r : Ordering) → ordering_index r ≤ 2
index_within Less = omega arith
index_within Equal = omega arith
index_within Greater = omega arith

-- what holds by cases of a result, said of each case alone
pub if_ok : (P Q : ℕ → Type 0) (r : Result ℕ ℕ) → MatchResult r P Q → IfOk r P
if_ok P Q (Ok i) h = h
if_ok P Q (Err i) h = tt

pub if_err : (P Q : ℕ → Type 0) (r : Result ℕ ℕ) → MatchResult r P Q → IfErr r Q
if_err P Q (Ok i) h = tt
if_err P Q (Err i) h = h

module _ {K : Type 0} {R : K → K → Ordering} (o : IsTotalOrder R) where
  -- who stands before a key does not tie with it
  apart : (x q : K) → R x q ≡ Less → eq_by_cmp R q x ≡ false
  apart x q e = ap is_eq (o.antisymm q x ∙ ap ordering_reverse e)

  index_rises : (x y q : K) → R x y ≡ Less → ordering_index (R x q) ≤ ordering_index (R y q)
  index_rises x y q lt =
      elim (R y q) as (λ r. R y q ≡ r → ordering_index (R x q) ≤ ordering_index r) [
        | Less ↦ λ p. omega (arith, ap ordering_index (o.trans x y q lt p))
        | Equal ↦ λ p. omega (arith, ap ordering_index (sym (alike_right o y q x p) ∙ lt))
        | Greater ↦ λ p. index_within (R x q)
      ] refl

module _ {K X : Type 0} (R : K → K → Ordering) where
  -- each key stands before q
  abbrev pub all_below : K → List (K × X) → Bool
  all_below q = list_all (λ e. is_lt (R e.0 q))

  -- each of them, by its place
  all_below_at : (q : K) (es : List (K × X)) → T (all_below q es) → (j : ℕ) (d : K × X) → j < length es
      → R (get_or es j d).0 q ≡ Less
  all_below_at q [] h j d lt = absurd (omega arith)
  all_below_at q (e ∷ es) h zero d lt = less _ (first _ _ h)
  all_below_at q (e ∷ es) h (suc j) d lt = all_below_at q es (second _ _ h) j d (omega arith)

  below_all-set : (x : K) (es : List (K × X)) (i : ℕ) (v : X) (d : K × X) → i < length es
      → below_all R x (set es i ((get_or es i d).0, v)) ≡ below_all R x es
  below_all-set x [] i v d lt = absurd (omega arith)
  below_all-set x (e ∷ es) zero v d lt = refl
  below_all-set x (e ∷ es) (suc i) v d lt = ap (λ b. is_lt (R x e.0) && b) (below_all-set x es i v d (omega arith))

  -- a new value leaves the keys in order
  pub is_sorted-set : (es : List (K × X)) (i : ℕ) (v : X) (d : K × X) → i < length es
      → is_sorted R (set es i ((get_or es i d).0, v)) ≡ is_sorted R es
  is_sorted-set [] i v d lt = absurd (omega arith)
  is_sorted-set (e ∷ es) zero v d lt = refl
  is_sorted-set (e ∷ es) (suc i) v d lt =
      λ j. below_all-set e.0 es i v d (omega arith) j && is_sorted-set es i v d (omega arith) j

  -- the same, of the entry as it was read
  pub is_sorted-replaced : (es : List (K × X)) (i : ℕ) (e : K × X) (v : X) → i < length es → e ≡ get_or es i e
      → T (is_sorted R es) → T (is_sorted R (set es i (e.0, v)))
  is_sorted-replaced es i e v lt read h =
      subst (λ k. T (is_sorted R (set es i (k, v)))) (sym (ap (λ (f : K × X). f.0) read)) (subst T (sym (is_sorted-set es i v e lt)) h)

  below_all-remove : (x : K) (es : List (K × X)) (i : ℕ) → T (below_all R x es) → T (below_all R x (remove es i))
  below_all-remove x [] zero h = tt
  below_all-remove x [] (suc i) h = tt
  below_all-remove x (e ∷ es) zero h = second _ _ h
  below_all-remove x (e ∷ es) (suc i) h = both _ _ (first _ _ h) (below_all-remove x es i (second _ _ h))

  -- so does an entry less
  pub is_sorted-remove : (es : List (K × X)) (i : ℕ) → T (is_sorted R es) → T (is_sorted R (remove es i))
  is_sorted-remove [] zero h = tt
  is_sorted-remove [] (suc i) h = tt
  is_sorted-remove (e ∷ es) zero h = second _ _ h
  is_sorted-remove (e ∷ es) (suc i) h =
      both _ _ (below_all-remove e.0 es i (first _ _ h)) (is_sorted-remove es i (second _ _ h))

  module _ (o : IsTotalOrder R) where
    -- the last of some keys that rise tells of all
    all_below-last : (q : K) (e : K × X) (es : List (K × X)) (d : K × X) → T (is_sorted R (e ∷ es))
        → all_below q (e ∷ es) ≡ is_lt (R (get_or (e ∷ es) (length es) d).0 q)
    all_below-last q e [] d h = elim (is_lt (R e.0 q)) as (λ b. b && true ≡ b) [ true ↦ refl | false ↦ refl ]
    all_below-last q e (f ∷ fs) d h =
        let rest = all_below-last q f fs d (second _ _ h) in
        ap (λ b. is_lt (R e.0 q) && b) rest ∙ joined (is_lt (R (get_or (f ∷ fs) (length fs) d).0 q)) rest
      where
        joined : (b : Bool) → all_below q (f ∷ fs) ≡ b → is_lt (R e.0 q) && b ≡ b
        joined false is = elim (is_lt (R e.0 q)) as (λ b. b && false ≡ false) [ true ↦ refl | false ↦ refl ]
        joined true is =
            let near : R f.0 q ≡ Less = less _ (first _ _ (true_is _ is)) in
            let far : R e.0 q ≡ Less = o.trans e.0 f.0 q (less _ (first _ _ (first _ _ h))) near in
            ap (λ r. is_lt r && true) far

    all_below-at_last : (q : K) (es : List (K × X)) (d : K × X) → T (is_sorted R es) → 0 < length es
        → all_below q es ≡ is_lt (R (get_or es (length es - 1) d).0 q)
    all_below-at_last q [] d h some = absurd (omega arith)
    all_below-at_last q (e ∷ es) d h some =
        all_below-last q e es d h ∙ ap (λ n. is_lt (R (get_or (e ∷ es) n d).0 q)) (omega arith)

    -- behind the last one is behind all
    pub gap_behind : (q : K) (es : List (K × X)) (d : K × X) → T (is_sorted R es) → 0 < length es
        → T (is_lt (R (get_or es (length es - 1) d).0 q)) → IsGap R es q (length es)
    gap_behind q es d h some last =
        let all : T (all_below q es) = subst T (sym (all_below-at_last q es d h some)) last in
        record {
          in_range = omega arith;
          before = λ k e lt. all_below_at q es all k e lt;
          after = λ k e le lt. absurd (omega arith);
        }

    pub gap_of_none : (q : K) (es : List (K × X)) → length es ≡ 0 → IsGap R es q (length es)
    gap_of_none q es none =
        record {
          in_range = omega arith;
          before = λ k e lt. absurd (omega arith);
          after = λ k e le lt. absurd (omega arith);
        }

    -- the comparisons with q rise along the list, as a binary search asks
    comparisons_rise : (q : K) (es : List (K × X)) → T (is_sorted R es)
        → IsNonDecreasingBy (λ e. ordering_index (R e.0 q)) es
    comparisons_rise q [] h i j d le lt = absurd (omega arith)
    comparisons_rise q (e ∷ es) h zero zero d le lt = omega arith
    comparisons_rise q (e ∷ es) h zero (suc j) d le lt =
        index_rises o e.0 (get_or es j d).0 q (below_at R e.0 es (first _ _ h) j d (omega arith))
    comparisons_rise q (e ∷ es) h (suc i) zero d le lt = absurd (omega arith)
    comparisons_rise q (e ∷ es) h (suc i) (suc j) d le lt =
        comparisons_rise q es (second _ _ h) i j d (omega arith) (omega arith)

    -- a binary search ends at the key's place, or at its gap
    pub searched : (q : K) (es : List (K × X)) → T (is_sorted R es) → (r : Result ℕ ℕ) → IsSearchInRange r (length es)
        → IsBinarySearchResult (λ e. R e.0 q) es r → MatchResult r (IsPlace R es q) (IsGap R es q)
    searched q es h (Ok i) in_range at = record { in_range = in_range; tied = at }
    searched q es h (Err i) in_range parted =
        let sides = parted (comparisons_rise q es h) in
        record {
          in_range = in_range;
          before = λ k d lt. sides.0 k d (omega arith) lt;
          after = λ k d le lt. sides.1 k d le lt;
        }

    -- at a place that ties, the keys before it are smaller
    before_place : (q : K) (e : K × X) (es : List (K × X)) → T (is_sorted R (e ∷ es)) → (i : ℕ) (d : K × X)
        → i < length es → R (get_or es i d).0 q ≡ Equal → R e.0 q ≡ Less
    before_place q e es h i d lt ties =
        sym (alike_right o (get_or es i d).0 q e.0 ties) ∙ below_at R e.0 es (first _ _ h) i d lt

    -- the entry at the place is the one that is found
    pub find-place : (q : K) (es : List (K × X)) → T (is_sorted R es) → (i : ℕ) (d : K × X) → i < length es
        → R (get_or es i d).0 q ≡ Equal → find R q es ≡ Some (get_or es i d).1
    find-place q [] h i d lt ties = absurd (omega arith)
    find-place q (e ∷ es) h zero d lt ties = ap (λ r. cond (is_eq r) (Some e.1) (find R q es)) (tied_back o e.0 q ties)
    find-place q (e ∷ es) h (suc i) d lt ties =
        ap (λ b. cond b (Some e.1) (find R q es)) (apart o e.0 q (before_place q e es h i d (omega arith) ties))
        ∙ find-place q es (second _ _ h) i d (omega arith) ties

    -- the value is written there
    pub put-place : (q : K) (v : X) (es : List (K × X)) → T (is_sorted R es) → (i : ℕ) (d : K × X) → i < length es
        → R (get_or es i d).0 q ≡ Equal → put R q v es ≡ set es i ((get_or es i d).0, v)
    put-place q v [] h i d lt ties = absurd (omega arith)
    put-place q v (e ∷ es) h zero d lt ties =
        ap (λ r. by_order r ((q, v) ∷ e ∷ es) ((e.0, v) ∷ es) (e ∷ put R q v es)) (tied_back o e.0 q ties)
    put-place q v (e ∷ es) h (suc i) d lt ties =
        let larger : R q e.0 ≡ Greater = o.antisymm q e.0 ∙ ap ordering_reverse (before_place q e es h i d (omega arith) ties) in
        ap (λ r. by_order r ((q, v) ∷ e ∷ es) ((e.0, v) ∷ es) (e ∷ put R q v es)) larger
        ∙ ap (λ fs. e ∷ fs) (put-place q v es (second _ _ h) i d (omega arith) ties)

    -- the same two, of the entry as it was read
    pub find-read : (q : K) (es : List (K × X)) → T (is_sorted R es) → (i : ℕ) (e : K × X) → IsPlace R es q i
        → e ≡ get_or es i e → Some e.1 ≡ find R q es
    find-read q es h i e there read =
        ap (λ (f : K × X). Some f.1) read ∙ sym (find-place q es h i e there.in_range (there.tied e))

    pub put-read : (q : K) (v : X) (es : List (K × X)) → T (is_sorted R es) → (i : ℕ) (e : K × X) → IsPlace R es q i
        → e ≡ get_or es i e → set es i (e.0, v) ≡ put R q v es
    put-read q v es h i e there read =
        ap (λ (f : K × X). set es i (f.0, v)) read ∙ sym (put-place q v es h i e there.in_range (there.tied e))

    -- and none is taken out
    without_nowhere : (q : K) (es : List (K × X))
        → ((k : ℕ) (d : K × X) → k < length es → eq_by_cmp R q (get_or es k d).0 ≡ false)
        → where_key R (λ x. not (eq_by_cmp R q x)) es ≡ es
    without_nowhere q [] h = refl
    without_nowhere q (e ∷ es) h =
        let rest = where_key R (λ x. not (eq_by_cmp R q x)) es in
        ap (λ b. cond (not b) (e ∷ rest) rest) (h 0 e (omega arith))
        ∙ ap (λ fs. e ∷ fs) (without_nowhere q es (λ k d lt. h (suc k) d (omega arith)))

    -- the entry at the place is taken out, and no other
    pub without-place : (q : K) (es : List (K × X)) → T (is_sorted R es) → (i : ℕ) (d : K × X) → i < length es
        → R (get_or es i d).0 q ≡ Equal → where_key R (λ x. not (eq_by_cmp R q x)) es ≡ remove es i
    without-place q [] h i d lt ties = absurd (omega arith)
    without-place q (e ∷ es) h zero d lt ties =
        let rest = where_key R (λ x. not (eq_by_cmp R q x)) es in
        ap (λ r. cond (not (is_eq r)) (e ∷ rest) rest) (tied_back o e.0 q ties)
        ∙ without_nowhere q es (λ k f in_range. ap is_eq (sym (o.congr e.0 q (get_or es k f).0 ties) ∙ below_at R e.0 es (first _ _ h) k f in_range))
    without-place q (e ∷ es) h (suc i) d lt ties =
        let rest = where_key R (λ x. not (eq_by_cmp R q x)) es in
        ap (λ b. cond (not b) (e ∷ rest) rest) (apart o e.0 q (before_place q e es h i d (omega arith) ties))
        ∙ ap (λ fs. e ∷ fs) (without-place q es (second _ _ h) i d (omega arith) ties)

    gap_apart : (q : K) (es : List (K × X)) (i : ℕ) → IsGap R es q i → (k : ℕ) (d : K × X) → k < length es
        → eq_by_cmp R q (get_or es k d).0 ≡ false
    gap_apart q es i gap k d lt = elim (cases_lt k i) [
      | inl below ↦ apart o (get_or es k d).0 q (gap.before k d below)
      | inr above ↦ ap is_eq (o.antisymm q (get_or es k d).0 ∙ ap ordering_reverse (gap.after k d above lt))
    ]

    pub find-gap : (q : K) (es : List (K × X)) (i : ℕ) → IsGap R es q i → find R q es ≡ None
    find-gap q es i gap = find_nowhere R q es (gap_apart q es i gap)

    pub without-gap : (q : K) (es : List (K × X)) (i : ℕ) → IsGap R es q i
        → where_key R (λ x. not (eq_by_cmp R q x)) es ≡ es
    without-gap q es i gap = without_nowhere q es (gap_apart q es i gap)

    -- a new key goes into its gap
    pub put-gap : (q : K) (v : X) (es : List (K × X)) (i : ℕ) → IsGap R es q i → put R q v es ≡ insert es i (q, v)
    put-gap q v [] zero gap = refl
    put-gap q v [] (suc i) gap = absurd (omega (arith, gap.in_range))
    put-gap q v (e ∷ es) zero gap =
        ap (λ r. by_order r ((q, v) ∷ e ∷ es) ((e.0, v) ∷ es) (e ∷ put R q v es)) (o.antisymm q e.0 ∙ ap ordering_reverse (gap.after 0 e (omega arith) (omega arith)))
    put-gap q v (e ∷ es) (suc i) gap =
        let inner : IsGap R es q i = record { in_range = omega (arith, gap.in_range); before = λ k d lt. gap.before (suc k) d (omega arith); after = λ k d le lt. gap.after (suc k) d (omega arith) (omega arith) } in
        ap (λ r. by_order r ((q, v) ∷ e ∷ es) ((e.0, v) ∷ es) (e ∷ put R q v es)) (o.antisymm q e.0 ∙ ap ordering_reverse (gap.before 0 e (omega arith)))
        ∙ ap (λ fs. e ∷ fs) (put-gap q v es i inner)

    -- and the keys stay in order
    pub is_sorted-gap : (q : K) (v : X) (es : List (K × X)) → T (is_sorted R es) → (i : ℕ) → IsGap R es q i
        → T (is_sorted R (insert es i (q, v)))
    is_sorted-gap q v es h i gap = subst (λ fs. T (is_sorted R fs)) (put-gap q v es i gap) (is_sorted-put R o q v es h)
