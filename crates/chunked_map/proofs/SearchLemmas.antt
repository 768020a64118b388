-- What the last key of a chunk tells of where a key belongs.
use Rattle.std.proofs.Common.{◌≡◌, ℕ, suc, ◌-◌, ◌<◌, false, T, List, [], ◌∷◌, ◌++◌, length, take, drop, get_or, refl, sym, ap, ◌∙◌, subst, arith}
use Rattle.std.specs.Cmp.{IsTotalOrder, alike_right}
use Rattle.std.specs.FinMap.{is_sorted}
use Rattle.std.specs.FinMap.Entries.{below_all}
use Rattle.std.specs.Ordering.{is_lt}
use Rattle.std.specs.declared.cmp.Ordering.{Ordering}
use Rattle.std.specs.declared.cmp.Ordering.TheVariants.{Less, Equal, Greater}
use Rattle.general_words.proofs.Entries.{below_at}
use Rattle.general_words.proofs.Orders.{is_less}
use Rattle.general_words.proofs.Tests.{both, first, second}
use Rattle.general_words.proofs.Lists.{same_default}
use Rattle.sorted_map.specs.Place.{IsPlace, IsGap}
use Rattle.chunked_map.specs.Chunks.{joined, AreChunks, IsChunkOf, IsBeforeLast, all_before}
use Rattle.chunked_map.proofs.OrderLemmas.{below_all-right, sorted_left, all_before-last, below_all-last}
use Rattle.chunked_map.proofs.JoinLemmas.{sized_at, take_one_more, sorted-take}
use Rattle.chunked_map.proofs.ChunkLemmas.{before_more, sorted_here}
use Rattle.chunked_map.proofs.CostLemmas.{greater_from}

module _ {K X : Type 0} (R : K → K → Ordering) (o : IsTotalOrder R) (q : K) where
  smaller_all : (c : List (K × X)) → 0 < length c → T (is_sorted R c)
      → ((d : K × X) → R (get_or c (length c - 1) d).0 q ≡ Less) → T (all_before R q c)
  smaller_all [] some h last = absurd (omega arith)
  smaller_all (e ∷ es) some h last =
      let end : length (e ∷ es) - 1 ≡ length es = omega arith in
      all_before-last R o q (e ∷ es) (length es) e refl h (is_less _ (sym (ap (λ n. R (get_or (e ∷ es) n e).0 q) end) ∙ last e))

  larger_rest : (c es : List (K × X)) → 0 < length c → T (is_sorted R (c ++ es))
      → ((d : K × X) → is_lt (R (get_or c (length c - 1) d).0 q) ≡ false) → T (below_all R q es)
  larger_rest [] es some h last = absurd (omega arith)
  larger_rest (e ∷ c) es some h last =
      let end : length (e ∷ c) - 1 ≡ length c = omega arith in
      below_all-last R o q (e ∷ c) es (length c) e refl h (sym (ap (λ n. is_lt (R (get_or (e ∷ c) n e).0 q)) end) ∙ last e)

  -- before a key that ties stand only smaller ones
  smaller_front : (xs c : List (K × X)) (n : ℕ) (d : K × X) → n < length c → T (is_sorted R (xs ++ c))
      → R (get_or c n d).0 q ≡ Equal → T (all_before R q xs)
  smaller_front [] c n d lt h ties = tt
  smaller_front (x ∷ xs) c n d lt h ties =
      let nearer = below_at R x.0 c (below_all-right R x.0 xs c (first _ _ h)) n d lt in
      both _ _ (is_less _ (sym (alike_right o (get_or c n d).0 q x.0 ties) ∙ nearer)) (smaller_front xs c n d lt (second _ _ h) ties)

  tied_front : (xs c : List (K × X)) → 0 < length c → T (is_sorted R (xs ++ c))
      → ((d : K × X) → R (get_or c (length c - 1) d).0 q ≡ Equal) → T (all_before R q xs)
  tied_front xs [] some h ties = absurd (omega arith)
  tied_front xs (e ∷ es) some h ties = smaller_front xs (e ∷ es) (length (e ∷ es) - 1) e (omega arith) h (ties e)

  module _ (cs : List (List (K × X))) (are : AreChunks R cs) (at : ℕ) (lt : at < length cs) where
    -- a key before the last one of a chunk belongs into it, if it is behind the chunks before
    pub home_late : IsBeforeLast R q (get_or cs at []) → T (all_before R q (joined (take at cs))) → IsChunkOf R cs q at
    home_late late before = record {
      within = omega arith;
      before = before;
      behind = larger_rest (get_or cs at []) (joined (drop (suc at) cs)) (sized_at cs at [] lt are.sizes).some (sorted_here R q o cs are at (get_or cs at []) lt (same_default cs at [] (get_or cs at []) lt)) (λ d. ap is_lt (late.late d));
    }

    module _ (c : List (K × X)) (is : c ≡ get_or cs at c) where
      some_here : 0 < length c
      some_here = subst (λ (es : List (K × X)). 0 < length es) (sym is) (sized_at cs at c lt are.sizes).some

      pub sorted_chunk : T (is_sorted R c)
      sorted_chunk = sorted_left R c (joined (drop (suc at) cs)) (sorted_here R q o cs are at c lt is)

    module _ (c : List (K × X)) (is : c ≡ get_or cs at c) (r : Ordering) (last : (d : K × X) → R (get_or c (length c - 1) d).0 q ≡ r) where
      -- one behind the last key is behind the chunk
      pub next_before : r ≡ Less → (n : ℕ) → n ≡ suc at → T (all_before R q (joined (take n cs)))
      next_before less n next =
          before_more R q o cs are at c lt is n next (smaller_all c (some_here c is) (sorted_chunk c is) (λ d. last d ∙ less))

      pub late_here : r ≡ Greater → IsBeforeLast R q (get_or cs at [])
      late_here more =
          record {
            late = λ d. subst (λ (es : List (K × X)). R (get_or es (length es - 1) d).0 q ≡ Greater) (is ∙ same_default cs at c [] lt) (last d ∙ more);
          }

      -- one that ties stands there
      pub home_tied : r ≡ Equal → IsChunkOf R cs q at
      home_tied ties =
          let front = subst (λ es. T (is_sorted R es)) (take_one_more cs at c lt ∙ ap (λ es. joined (take at cs) ++ es) (sym is)) (sorted-take R cs are.sorted (suc at)) in
          record {
            within = omega arith;
            before = tied_front (joined (take at cs)) c (some_here c is) front (λ d. last d ∙ ties);
            behind = larger_rest c (joined (drop (suc at) cs)) (some_here c is) (sorted_here R q o cs are at c lt is) (λ d. ap is_lt (last d ∙ ties));
          }

      pub place_last : r ≡ Equal → (n : ℕ) → n ≡ length c - 1 → IsPlace R (get_or cs at []) q n
      place_last ties n end =
          let some = some_here c is in
          subst (λ es. IsPlace R es q n) (is ∙ same_default cs at c [] lt) (record { in_range = omega arith; tied = λ d. ap (λ n. R (get_or c n d).0 q) end ∙ last d ∙ ties })

    -- a key before the first one of a chunk stands before all of it
    module _ (c : List (K × X)) (is : c ≡ get_or cs at c) (e : K × X) (first : e ≡ get_or c 0 e) (before : R e.0 q ≡ Greater) where
      behind_all : (k : ℕ) (d : K × X) → k < length (get_or cs at []) → R (get_or (get_or cs at []) k d).0 q ≡ Greater
      behind_all k d within =
          let here = is ∙ same_default cs at c [] lt in
          let first_here = ap (λ es. R (get_or es 0 e).0 q) (sym here) ∙ ap (λ f. R f.0 q) (sym first) ∙ before in
          greater_from R o q (get_or cs at []) 0 k e d (subst (λ es. T (is_sorted R es)) here (sorted_chunk c is)) within (omega arith) first_here

      pub gap_first : IsGap R (get_or cs at []) q 0
      gap_first =
          record {
            in_range = omega arith;
            before = λ k d early. absurd (omega (arith, early));
            after = λ k d late within. behind_all k d within;
          }

      pub late_first : IsBeforeLast R q (get_or cs at [])
      late_first =
          let some = subst (λ (es : List (K × X)). 0 < length es) (is ∙ same_default cs at c [] lt) (some_here c is) in
          record { late = λ d. behind_all (length (get_or cs at []) - 1) d (omega arith) }
