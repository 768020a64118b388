-- A map's entries one by one: the first n of them are a map, which the next one joins, and all of them are the whole
-- map.
use Rattle.std.proofs.Common.{◌≡◌, ℕ, ◌+◌, ◌≤◌, T, cond, List, [], ◌∷◌, ◌++◌, length, take, slice_get, Some, None, sym, ap, subst, ◌∙◌, arith, append_assoc, append-nil}
use Rattle.std.specs.Prelude.{sum_by}
use Rattle.std.specs.Cmp.{IsTotalOrder}
use Rattle.std.specs.FinMap as map
use Rattle.std.specs.FinMap.{FinMap, IsAntisymmetric, find, is_sorted}
use Rattle.std.specs.Ordering.{eq_by_cmp}
use Rattle.std.specs.declared.cmp.Ordering.{Ordering}
use Rattle.std.proofs.lemmas.List.{take_all}
use Rattle.std.proofs.lemmas.List.Sums.{sum_by-append}
use Rattle.general_words.specs.Fronts.{front}
use Rattle.general_words.proofs.Entries.{is_sorted-take, put-last, find-before, find-there, find-next}
use Rattle.general_words.proofs.Maps.{from_sorted-nil, entries-empty}

module _ {K X : Type 0} {R : K → K → Ordering} where
  pub get-front : (m : FinMap R X) (n : ℕ) (q : K) → map.get (front m n) q ≡ find R q (take n (map.entries m))
  get-front m n q =
      map.get-from_sorted R (take n (map.entries m)) q (is_sorted-take R n (map.entries m) (map.entries_sorted m))

  -- no entry makes the empty map
  pub front-none : (m : FinMap R X) → front m 0 ≡ map.empty
  front-none m = from_sorted-nil R

  -- all entries make the map
  pub front-all : (m : FinMap R X) (n : ℕ) → length (map.entries m) ≤ n → front m n ≡ m
  front-all m n le =
      map.same_entries_map (front m n) m (map.entries-from_sorted R (take n (map.entries m)) (is_sorted-take R n (map.entries m) (map.entries_sorted m)) ∙ take_all n (map.entries m) le)

  module _ (total : IsTotalOrder R) (same : IsAntisymmetric R) where
    -- the next entry is inserted
    pub front-next : (m : FinMap R X) (i : ℕ) (e : K × X) → Some e ≡ slice_get (map.entries m) i
        → front m (i + 1) ≡ map.insert (front m i) e.0 e.1
    front-next m i e found = map.same_map total same _ _ (λ q.
        get-front m (i + 1) q
        ∙ find-next total (map.entries m) i e q (map.entries_sorted m) found
        ∙ ap (cond (eq_by_cmp R q e.0) (Some e.1)) (sym (get-front m i q))
        ∙ sym (map.get-insert total (front m i) e.0 e.1 q))

-- ---- the same of any map whose entries are the first of another's: the rest is left

module _ {K X : Type 0} {R : K → K → Ordering} (total : IsTotalOrder R) where
  sorted_as : (whole part : FinMap R X) (rest : List (K × X)) → map.entries whole ≡ map.entries part ++ rest
      → T (is_sorted R (map.entries part ++ rest))
  sorted_as whole part rest cut = subst (λ es. T (is_sorted R es)) cut (map.entries_sorted whole)

  -- the next entry is not in the front
  pub next_is_new : (whole part : FinMap R X) (e : K × X) (rest : List (K × X))
      → map.entries whole ≡ map.entries part ++ e ∷ rest → map.get part e.0 ≡ None
  next_is_new whole part e rest cut =
      map.get-entries part e.0 ∙ find-before total (map.entries part) e rest (sorted_as whole part _ cut)

  -- and the whole map has it
  pub next_is_there : (whole part : FinMap R X) (e : K × X) (rest : List (K × X))
      → map.entries whole ≡ map.entries part ++ e ∷ rest → map.get whole e.0 ≡ Some e.1
  next_is_there whole part e rest cut =
      map.get-entries whole e.0 ∙ ap (find R e.0) cut
      ∙ find-there total (map.entries part) e rest (sorted_as whole part _ cut)

  -- the next entry joins the front
  pub next_joins : (whole part : FinMap R X) (e : K × X) (rest : List (K × X))
      → map.entries whole ≡ map.entries part ++ e ∷ rest
      → map.entries whole ≡ map.entries (map.insert part e.0 e.1) ++ rest
  next_joins whole part e rest cut =
      let joined = map.entries-insert total part e.0 e.1 ∙ put-last total (map.entries part) e rest (sorted_as whole part _ cut) in
      cut ∙ sym (append_assoc (map.entries part) (e ∷ []) rest) ∙ ap (λ es. es ++ rest) (sym joined)

module _ {K X : Type 0} {R : K → K → Ordering} where
  -- where nothing is left, the front is the whole
  pub none_left : (whole part : FinMap R X) → map.entries whole ≡ map.entries part ++ [] → part ≡ whole
  none_left whole part cut = map.same_entries_map part whole (sym (append-nil (map.entries part)) ∙ sym cut)

  -- at first everything is left
  pub all_left : (whole : FinMap R X) → map.entries whole ≡ map.entries (map.empty {X = X} {R = R}) ++ map.entries whole
  all_left whole = ap (λ es. es ++ map.entries whole) (sym (entries-empty R X))

  -- a sum over a front is no greater than over the whole
  pub sum_by-front : (f : (K × X) → ℕ) (whole part : FinMap R X) (rest : List (K × X))
      → map.entries whole ≡ map.entries part ++ rest → sum_by f (map.entries part) ≤ sum_by f (map.entries whole)
  sum_by-front f whole part rest cut = omega (arith, ap (sum_by f) cut, sum_by-append f (map.entries part) rest)
