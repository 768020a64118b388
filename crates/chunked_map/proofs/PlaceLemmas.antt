-- What is found, put and taken out in the chunk into which a key belongs.
use Rattle.std.proofs.Common.{◌≡◌, ℕ, zero, suc, ◌<◌, ◌≤◌, ◌^◌, T, not, List, [], ◌∷◌, ◌++◌, length, take, drop, get_or, set, None, sym, ap, ◌∙◌, subst, arith, append-nil}
use Rattle.std.specs.Cmp.{IsTotalOrder}
use Rattle.std.specs.FinMap.{find, is_sorted}
use Rattle.std.specs.FinMap.Entries.{put, where_key, is_sorted-put, is_sorted-where_key}
use Rattle.std.specs.List.{AllByRecursion, remove}
use Rattle.std.specs.Ordering.{eq_by_cmp}
use Rattle.std.specs.declared.cmp.Ordering.{Ordering}
use Rattle.std.proofs.lemmas.List.{take_all, take-set, drop-set-lt, get_or-set_same, set_split, length-set, length-append, nil_from_length}
use Rattle.chunked_map.specs.Chunks.{joined, IsSized, AreChunks, IsChunkOf, all_before, in_place}
use Rattle.chunked_map.proofs.OrderLemmas.{find-between, put-between, without-between, some-put, length-without}
use Rattle.chunked_map.proofs.JoinLemmas.{joined-append, joined_at, joined_set, joined-in_place, sized-in_place, sized-append, sized_at, positive}

module _ {K X : Type 0} (R : K → K → Ordering) (o : IsTotalOrder R) (q : K) (cs : List (List (K × X))) where
  -- the entries of the chunks around one
  abbrev pub around : ℕ → List (K × X) → List (K × X)
  around at c = joined (take at cs) ++ (c ++ joined (drop (suc at) cs))

  module _ (at : ℕ) (c : List (K × X)) (place : IsChunkOf R cs q at) (lt : at < length cs) (is : c ≡ get_or cs at c) where
    whole : joined cs ≡ around at c
    whole = joined_at cs at c lt ∙ ap (around at) (sym is)

    pub find_in : find R q c ≡ find R q (joined cs)
    find_in =
        sym (ap (find R q) whole ∙ find-between R o q (joined (take at cs)) c (joined (drop (suc at) cs)) place.before place.behind)

    pub put_in_is : (v : X) → joined (set cs at (put R q v c)) ≡ put R q v (joined cs)
    put_in_is v =
        joined_set cs at (put R q v c) lt
        ∙ sym (ap (put R q v) whole ∙ put-between R o q (joined (take at cs)) c (joined (drop (suc at) cs)) place.before place.behind v)

    without_in : around at (where_key R (λ k. not (eq_by_cmp R q k)) c) ≡ where_key R (λ k. not (eq_by_cmp R q k)) (joined cs)
    without_in =
        sym (ap (where_key R (λ k. not (eq_by_cmp R q k))) whole ∙ without-between R o q (joined (take at cs)) c (joined (drop (suc at) cs)) place.before place.behind)

    pub without_set : joined (set cs at (where_key R (λ k. not (eq_by_cmp R q k)) c)) ≡ where_key R (λ k. not (eq_by_cmp R q k)) (joined cs)
    without_set = joined_set cs at _ lt ∙ without_in

    -- a chunk of which nothing is left is taken out
    pub without_gone : where_key R (λ k. not (eq_by_cmp R q k)) c ≡ [] → joined (in_place cs at []) ≡ where_key R (λ k. not (eq_by_cmp R q k)) (joined cs)
    without_gone none = joined-in_place cs at [] ∙ ap (around at) (sym none) ∙ without_in

    module _ (are : AreChunks R cs) where
      set_are : (d : List (K × X)) → IsSized d → T (is_sorted R (joined (set cs at d))) → AreChunks R (set cs at d)
      set_are d sized sorted = record {
        sorted = sorted;
        sizes = subst (AllByRecursion IsSized) (sym (set_split cs at d lt)) (sized-in_place cs at (d ∷ []) are.sizes (sized, tt));
        count = subst (λ n. n ≤ 2 ^ 57) (sym (length-set cs at d)) are.count;
      }

      pub put_are : (v : X) → length (put R q v c) ≤ 64 → AreChunks R (set cs at (put R q v c))
      put_are v few =
          set_are (put R q v c) (record { some = some-put R q v c; few = few }) (subst (λ es. T (is_sorted R es)) (sym (put_in_is v)) (is_sorted-put R o q v (joined cs) are.sorted))

      sorted_without : T (is_sorted R (where_key R (λ k. not (eq_by_cmp R q k)) (joined cs)))
      sorted_without = is_sorted-where_key R (λ k. not (eq_by_cmp R q k)) (joined cs) are.sorted

      sized_here : IsSized c
      sized_here = subst IsSized (sym is) (sized_at cs at c lt are.sizes)

      pub without_are : 0 < length (where_key R (λ k. not (eq_by_cmp R q k)) c)
          → AreChunks R (set cs at (where_key R (λ k. not (eq_by_cmp R q k)) c))
      without_are some =
          let fewer = length-without R (λ k. not (eq_by_cmp R q k)) c in
          let few = sized_here.few in
          set_are (where_key R (λ k. not (eq_by_cmp R q k)) c) (record { some = some; few = omega arith }) (subst (λ es. T (is_sorted R es)) (sym without_set) sorted_without)

      pub gone_are : where_key R (λ k. not (eq_by_cmp R q k)) c ≡ [] → AreChunks R (in_place cs at [])
      gone_are none = record {
        sorted = subst (λ es. T (is_sorted R es)) (sym (without_gone none)) sorted_without;
        sizes = sized-in_place cs at [] are.sizes tt;
        count = let n = fewer cs at in let most = are.count in omega arith;
      }
        where
          fewer : (ds : List (List (K × X))) (n : ℕ) → length (in_place ds n []) ≤ length ds
          fewer [] zero = omega arith
          fewer [] (suc n) = omega arith
          fewer (d ∷ ds) zero = omega arith
          fewer (d ∷ ds) (suc n) = let more = fewer ds n in omega arith

  -- a key that belongs behind all chunks
  module _ (at : ℕ) (place : IsChunkOf R cs q at) (past : length cs ≤ at) where
    all_are_before : T (all_before R q (joined cs))
    all_are_before = subst (λ es. T (all_before R q (joined es))) (take_all at cs past) place.before

    bare : joined cs ++ ([] ++ []) ≡ joined cs
    bare = append-nil (joined cs)

    pub find_end : find R q (joined cs) ≡ None
    find_end = ap (find R q) (sym bare) ∙ find-between R o q (joined cs) [] [] all_are_before tt

    pub put_end : (v : X) → joined (cs ++ put R q v [] ∷ []) ≡ put R q v (joined cs)
    put_end v =
        joined-append cs (put R q v [] ∷ [])
        ∙ sym (ap (put R q v) (sym bare) ∙ put-between R o q (joined cs) [] [] all_are_before tt v)

    pub without_end : joined cs ≡ where_key R (λ k. not (eq_by_cmp R q k)) (joined cs)
    without_end =
        sym (ap (where_key R (λ k. not (eq_by_cmp R q k))) (sym bare) ∙ without-between R o q (joined cs) [] [] all_are_before tt ∙ bare)

    pub end_are : (v : X) → length cs < 2 ^ 57 → AreChunks R cs → AreChunks R (cs ++ put R q v [] ∷ [])
    end_are v room are = record {
      sorted = subst (λ es. T (is_sorted R es)) (sym (put_end v)) (is_sorted-put R o q v (joined cs) are.sorted);
      sizes = sized-append cs (put R q v [] ∷ []) are.sizes (record { some = omega arith; few = omega arith }, tt);
      count = let n = length-append cs (put R q v [] ∷ []) in omega arith;
    }

  -- what is known of a chunk from its length, where it was read after it was written
  module _ (at : ℕ) (c d r : List (K × X)) (lt : at < length cs) (written : d ≡ where_key R (λ k. not (eq_by_cmp R q k)) c) (read : r ≡ get_or (set cs at d) at r) where
    read_is : r ≡ where_key R (λ k. not (eq_by_cmp R q k)) c
    read_is = read ∙ get_or-set_same cs at d r lt ∙ written

    pub nothing_left : length r ≡ 0 → where_key R (λ k. not (eq_by_cmp R q k)) c ≡ []
    nothing_left none = sym read_is ∙ nil_from_length r none

    pub some_left : (length r ≡ 0 → ⊥) → 0 < length (where_key R (λ k. not (eq_by_cmp R q k)) c)
    some_left some = subst (λ es. 0 < length es) read_is (positive (length r) some)

    pub taken_out : remove (set cs at d) at ≡ in_place cs at []
    taken_out = λ i. take-set cs at d i ++ drop-set-lt (suc at) cs at d (omega arith) i
