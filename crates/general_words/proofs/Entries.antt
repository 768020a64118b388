-- Entries in the order of their keys: a front of them and the rest, and what is found among them.
use Rattle.std.proofs.Common.{◌≡◌, ℕ, zero, suc, ◌+◌, ◌-◌, ◌<◌, true, false, T, cond, List, [], ◌∷◌, ◌++◌, length, get_or, take, drop, map, slice_get, slice_range, Some, None, refl, ap, subst, ◌∙◌, arith}
use Rattle.std.specs.Cmp.{IsTotalOrder, tied_itself}
use Rattle.std.specs.FinMap.{find, is_sorted}
use Rattle.std.specs.FinMap.Entries.{below_all, put, find-append}
use Rattle.std.specs.List.{AllByRecursion}
use Rattle.std.specs.List.Sorted.{IsStrictlySortedBy}
use Rattle.std.specs.Ordering.{eq_by_cmp}
use Rattle.std.specs.declared.cmp.Ordering.{Ordering}
use Rattle.std.specs.declared.cmp.Ordering.TheVariants.{Less, Greater}
use Rattle.std.specs.Option.{option_or}
use Rattle.general_words.proofs.Tests.{first, second, both}
use Rattle.general_words.proofs.Orders.{less, is_less, not_tied, turned}
use Rattle.general_words.proofs.Lists.{take-next, cut-next}

module _ {K X : Type 0} (R : K → K → Ordering) where
  pub below_all-append : (x : K) (es fs : List (K × X)) → T (below_all R x es) → T (below_all R x fs)
      → T (below_all R x (es ++ fs))
  below_all-append x [] fs g h = h
  below_all-append x (e ∷ es) fs g h = both _ _ (first _ _ g) (below_all-append x es fs (second _ _ g) h)

  pub below_all-take : (x : K) (n : ℕ) (es : List (K × X)) → T (below_all R x es) → T (below_all R x (take n es))
  below_all-take x zero es h = tt
  below_all-take x (suc n) [] h = tt
  below_all-take x (suc n) (e ∷ es) h = both _ _ (first _ _ h) (below_all-take x n es (second _ _ h))

  pub below_all-drop : (x : K) (n : ℕ) (es : List (K × X)) → T (below_all R x es) → T (below_all R x (drop n es))
  below_all-drop x zero es h = h
  below_all-drop x (suc n) [] h = tt
  below_all-drop x (suc n) (e ∷ es) h = below_all-drop x n es (second _ _ h)

  -- a key below all is below each
  pub below_at : (x : K) (es : List (K × X)) → T (below_all R x es) → (j : ℕ) (d : K × X) → j < length es
      → R x (get_or es j d).0 ≡ Less
  below_at x [] h j d lt = absurd (omega arith)
  below_at x (e ∷ es) h zero d lt = less _ (first _ _ h)
  below_at x (e ∷ es) h (suc j) d lt = below_at x es (second _ _ h) j d (omega arith)

  pub is_sorted-take : (n : ℕ) (es : List (K × X)) → T (is_sorted R es) → T (is_sorted R (take n es))
  is_sorted-take zero es h = tt
  is_sorted-take (suc n) [] h = tt
  is_sorted-take (suc n) (e ∷ es) h =
      both _ _ (below_all-take e.0 n es (first _ _ h)) (is_sorted-take n es (second _ _ h))

  pub is_sorted-drop : (n : ℕ) (es : List (K × X)) → T (is_sorted R es) → T (is_sorted R (drop n es))
  is_sorted-drop zero es h = h
  is_sorted-drop (suc n) [] h = tt
  is_sorted-drop (suc n) (e ∷ es) h = is_sorted-drop n es (second _ _ h)

  pub is_sorted-slice_range : (from to : ℕ) (es : List (K × X)) → T (is_sorted R es)
      → T (is_sorted R (slice_range es from to))
  is_sorted-slice_range from to es h = is_sorted-take (to - from) (drop from es) (is_sorted-drop from es h)

  -- what is found in a front is found in the whole
  pub find-front : (n : ℕ) (es : List (K × X)) (q : K) (v : X) → find R q (take n es) ≡ Some v → find R q es ≡ Some v
  find-front zero es q v found = absurd cc
  find-front (suc n) [] q v found = found
  find-front (suc n) (e ∷ es) q v found =
      elim (eq_by_cmp R q e.0) as (λ b. cond b (Some e.1) (find R q (take n es)) ≡ Some v → cond b (Some e.1) (find R q es) ≡ Some v) [
        | true ↦ λ h. h
        | false ↦ λ h. find-front n es q v h
      ] found

  -- what is found in two lists, one after the other
  pub find-both : (es fs : List (K × X)) (q : K) → find R q (es ++ fs) ≡ option_or (find R q es) (find R q fs)
  find-both [] fs q = refl
  find-both (e ∷ es) fs q = elim (eq_by_cmp R q e.0) as (λ b. cond b (Some e.1) (find R q (es ++ fs)) ≡ option_or (cond b (Some e.1) (find R q es)) (find R q fs)) [
    | true ↦ refl
    | false ↦ find-both es fs q
  ]

  -- a key below all others is none of them
  pub find-below : (q : K) (es : List (K × X)) → T (below_all R q es) → find R q es ≡ None
  find-below q [] h = refl
  find-below q (e ∷ es) h =
      ap (λ b. cond b (Some e.1) (find R q es)) (not_tied _ (first _ _ h)) ∙ find-below q es (second _ _ h)

  -- where no key ties, none is found
  pub find_nowhere : (q : K) (es : List (K × X))
      → ((k : ℕ) (d : K × X) → k < length es → eq_by_cmp R q (get_or es k d).0 ≡ false) → find R q es ≡ None
  find_nowhere q [] h = refl
  find_nowhere q (e ∷ es) h =
      ap (λ b. cond b (Some e.1) (find R q es)) (h 0 e (omega arith))
      ∙ find_nowhere q es (λ k d lt. h (suc k) d (omega arith))

  -- a key below all entries is below their keys
  below_keys : (x : K) (es : List (K × X)) → T (below_all R x es)
      → AllByRecursion (λ y. R x y ≡ Less) (map (λ e. e.0) es)
  below_keys x [] h = tt
  below_keys x (e ∷ es) h = (less _ (first _ _ h), below_keys x es (second _ _ h))

  -- the keys of entries in order rise
  pub keys_rise : (es : List (K × X)) → T (is_sorted R es) → IsStrictlySortedBy R (map (λ e. e.0) es)
  unfolding IsStrictlySortedBy
  keys_rise [] h = tt
  keys_rise (e ∷ es) h = (below_keys e.0 es (first _ _ h), keys_rise es (second _ _ h))

module _ {K X : Type 0} {R : K → K → Ordering} (total : IsTotalOrder R) where
  -- what is below a key is below the entries behind that
  pub below_further : (x y : K) (es : List (K × X)) → R x y ≡ Less → T (below_all R y es) → T (below_all R x es)
  below_further x y [] lt h = tt
  below_further x y (e ∷ es) lt h =
      both _ _ (is_less _ (total.trans x y e.0 lt (less _ (first _ _ h)))) (below_further x y es lt (second _ _ h))

  -- what is below all of a list is below what stands in it
  above : (x : K) (before : List (K × X)) (e : K × X) (rest : List (K × X)) → T (below_all R x (before ++ e ∷ rest))
      → R e.0 x ≡ Greater
  above x [] e rest h = turned total x e.0 Less (less _ (first _ _ h))
  above x (f ∷ before) e rest h = above x before e rest (second _ _ h)

  -- an entry behind all others is put at the end
  pub put-last : (before : List (K × X)) (e : K × X) (rest : List (K × X)) → T (is_sorted R (before ++ e ∷ rest))
      → put R e.0 e.1 before ≡ before ++ e ∷ []
  put-last [] e rest h = refl
  put-last (f ∷ before) e rest h =
      rw (above f.0 before e rest (first _ _ h)) (ap (λ es. f ∷ es) (put-last before e rest (second _ _ h)))

  -- it is not found before its place
  pub find-before : (before : List (K × X)) (e : K × X) (rest : List (K × X)) → T (is_sorted R (before ++ e ∷ rest))
      → find R e.0 before ≡ None
  find-before [] e rest h = refl
  find-before (f ∷ before) e rest h =
      rw (above f.0 before e rest (first _ _ h)) (find-before before e rest (second _ _ h))

  -- and found in the whole
  pub find-there : (before : List (K × X)) (e : K × X) (rest : List (K × X)) → T (is_sorted R (before ++ e ∷ rest))
      → find R e.0 (before ++ e ∷ rest) ≡ Some e.1
  find-there [] e rest h = rw (tied_itself total e.0)
  find-there (f ∷ before) e rest h =
      rw (above f.0 before e rest (first _ _ h)) (find-there before e rest (second _ _ h))

  -- the next entry's key is not found before it
  pub next-new : (es : List (K × X)) (i : ℕ) (e : K × X) → T (is_sorted R es) → Some e ≡ slice_get es i
      → find R e.0 (take i es) ≡ None
  next-new es i e h found =
      find-before (take i es) e (drop (i + 1) es) (subst (λ fs. T (is_sorted R fs)) (cut-next es i e found) h)

  -- what is found once the next entry has joined
  pub find-next : (es : List (K × X)) (i : ℕ) (e : K × X) (q : K) → T (is_sorted R es) → Some e ≡ slice_get es i
      → find R q (take (i + 1) es) ≡ cond (eq_by_cmp R q e.0) (Some e.1) (find R q (take i es))
  find-next es i e q h found =
      ap (find R q) (take-next es i e found) ∙ find-append R total (take i es) e.0 e.1 q (next-new es i e h found)
