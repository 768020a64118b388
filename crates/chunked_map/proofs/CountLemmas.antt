-- How many entries have a key before another one, and the entries from a place on.
use Rattle.std.proofs.Common.{◌≡◌, ℕ, zero, suc, ◌+◌, ◌<◌, ◌≤◌, false, T, not, List, [], ◌∷◌, ◌++◌, length, take, drop, get_or, refl, sym, ap, ◌∙◌, subst, arith}
use Rattle.std.specs.Cmp.{IsTotalOrder}
use Rattle.std.specs.FinMap.{is_sorted}
use Rattle.std.specs.FinMap.Entries.{below_all}
use Rattle.std.specs.Ordering.{is_lt}
use Rattle.std.specs.declared.cmp.Ordering.{Ordering}
use Rattle.std.specs.declared.cmp.Ordering.TheVariants.{Less}
use Rattle.std.proofs.lemmas.List.{length-append, length-take-le}
use Rattle.general_words.proofs.Entries.{below_at}
use Rattle.general_words.proofs.Orders.{less, is_less, turned}
use Rattle.general_words.proofs.Tests.{both, first, second}
use Rattle.general_words.proofs.Lists.{same_default}
use Rattle.chunked_map.specs.Chunks.{joined, AreChunks, IsChunkOf, all_before, none_before}
use Rattle.chunked_map.proofs.JoinLemmas.{joined_at, sorted-take, sized-take}
use Rattle.chunked_map.proofs.OrderLemmas.{all_before-append, behind_key}

module _ {A : Type 0} where
  take_past : (xs ys : List A) (m p : ℕ) → length xs + m ≡ p → take p (xs ++ ys) ≡ xs ++ take m ys
  take_past [] ys m p e = let same : p ≡ m = omega arith in ap (λ n. take n ys) same
  take_past (x ∷ xs) ys m zero e = absurd (omega arith)
  take_past (x ∷ xs) ys m (suc p) e = ap (λ es. x ∷ es) (take_past xs ys m p (omega arith))

  drop_past : (xs ys : List A) (m p : ℕ) → length xs + m ≡ p → drop p (xs ++ ys) ≡ drop m ys
  drop_past [] ys m p e = let same : p ≡ m = omega arith in ap (λ n. drop n ys) same
  drop_past (x ∷ xs) ys m zero e = absurd (omega arith)
  drop_past (x ∷ xs) ys m (suc p) e = drop_past xs ys m p (omega arith)

  take_in : (xs ys : List A) (m : ℕ) → m ≤ length xs → take m (xs ++ ys) ≡ take m xs
  take_in xs ys zero le = refl
  take_in [] ys (suc m) le = absurd (omega arith)
  take_in (x ∷ xs) ys (suc m) le = ap (λ es. x ∷ es) (take_in xs ys m (omega arith))

  drop_in : (xs ys : List A) (m : ℕ) → m ≤ length xs → drop m (xs ++ ys) ≡ drop m xs ++ ys
  drop_in xs ys zero le = refl
  drop_in [] ys (suc m) le = absurd (omega arith)
  drop_in (x ∷ xs) ys (suc m) le = drop_in xs ys m (omega arith)

  -- the entries from a place in a chunk on: those of the chunk, and the chunks behind it
  pub drop_at_chunk : (cs : List (List A)) (at left p : ℕ) (c : List A) → at < length cs → c ≡ get_or cs at c
      → length (joined (take at cs)) + left ≡ p → left < length (get_or cs at [])
      → drop left c ++ joined (drop (suc at) cs) ≡ drop p (joined cs)
  drop_at_chunk cs at left p c lt is place inside =
      let len = ap length (same_default cs at [] c lt ∙ sym is) in
      sym (ap (drop p) (joined_at cs at c lt ∙ ap (λ es. joined (take at cs) ++ (es ++ joined (drop (suc at) cs))) (sym is))
      ∙ drop_past (joined (take at cs)) (c ++ joined (drop (suc at) cs)) left p place
      ∙ drop_in c (joined (drop (suc at) cs)) left (omega arith))

module _ {K X : Type 0} (R : K → K → Ordering) (o : IsTotalOrder R) (q : K) where
  -- a key before q has only such before it
  pub before_up_to : (es : List (K × X)) (k : ℕ) (d : K × X) → k < length es → T (is_sorted R es)
      → T (is_lt (R (get_or es k d).0 q)) → T (all_before R q (take (suc k) es))
  before_up_to [] k d lt h past = absurd (omega arith)
  before_up_to (e ∷ es) zero d lt h past = both _ _ past tt
  before_up_to (e ∷ es) (suc k) d lt h past =
      both _ _ (is_less _ (o.trans e.0 (get_or es k d).0 q (below_at R e.0 es (first _ _ h) k d (omega arith)) (less _ past))) (before_up_to es k d (omega arith) (second _ _ h) past)

  pub none_below : (es : List (K × X)) → T (below_all R q es) → T (none_before R q es)
  none_below [] h = tt
  none_below (e ∷ es) h =
      both _ _ (subst (λ r. T (not (is_lt r))) (sym (turned o q e.0 Less (less _ (first _ _ h)))) tt) (none_below es (second _ _ h))

  -- and one that is not before q has only such behind it
  pub none_from : (es : List (K × X)) (k : ℕ) (d : K × X) → k < length es → T (is_sorted R es)
      → is_lt (R (get_or es k d).0 q) ≡ false → T (none_before R q (drop k es))
  none_from [] k d lt h late = absurd (omega arith)
  none_from (e ∷ es) zero d lt h late =
      both _ _ (subst (λ b. T (not b)) (sym late) tt) (none_below es (behind_key R o q e.0 es (first _ _ h) late))
  none_from (e ∷ es) (suc k) d lt h late = none_from es k d (omega arith) (second _ _ h) late

  none_before-append : (xs ys : List (K × X)) → T (none_before R q xs) → T (none_before R q ys)
      → T (none_before R q (xs ++ ys))
  none_before-append [] ys g h = h
  none_before-append (x ∷ xs) ys g h = both _ _ (first _ _ g) (none_before-append xs ys (second _ _ g) h)

  -- the chunks up to one are chunks too
  pub front_are : (cs : List (List (K × X))) (at : ℕ) → at ≤ length cs → AreChunks R cs → AreChunks R (take at cs)
  front_are cs at le are = record {
    sorted = sorted-take R cs are.sorted at;
    sizes = sized-take at cs are.sizes;
    count = let n = length-take-le at cs le in let most = are.count in omega arith;
  }

  module _ (cs : List (List (K × X))) (at : ℕ) (place : IsChunkOf R cs q at) where
    module _ (c : List (K × X)) (m p : ℕ) (lt : at < length cs) (is : c ≡ get_or cs at c) (few : m ≤ length c) (sum : length (joined (take at cs)) + m ≡ p) where
      whole : joined cs ≡ joined (take at cs) ++ (c ++ joined (drop (suc at) cs))
      whole = joined_at cs at c lt ∙ ap (λ es. joined (take at cs) ++ (es ++ joined (drop (suc at) cs))) (sym is)

      pub bounded_in : p ≤ length (joined cs)
      bounded_in =
          let all = ap length whole ∙ length-append (joined (take at cs)) (c ++ joined (drop (suc at) cs)) in
          let rest = length-append c (joined (drop (suc at) cs)) in
          omega arith

      pub before_in_all : T (all_before R q (take m c)) → T (all_before R q (take p (joined cs)))
      before_in_all before =
          let parts = ap (take p) whole ∙ take_past (joined (take at cs)) (c ++ joined (drop (suc at) cs)) m p sum ∙ ap (λ es. joined (take at cs) ++ es) (take_in c (joined (drop (suc at) cs)) m few) in
          subst (λ es. T (all_before R q es)) (sym parts) (all_before-append R q (joined (take at cs)) (take m c) place.before before)

      pub none_in_all : T (none_before R q (drop m c)) → T (none_before R q (drop p (joined cs)))
      none_in_all none =
          let parts = ap (drop p) whole ∙ drop_past (joined (take at cs)) (c ++ joined (drop (suc at) cs)) m p sum ∙ drop_in c (joined (drop (suc at) cs)) m few in
          subst (λ es. T (none_before R q es)) (sym parts) (none_before-append (drop m c) (joined (drop (suc at) cs)) none (none_below (joined (drop (suc at) cs)) place.behind))
