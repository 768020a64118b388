-- Where a key would stand among entries, and among the halves of a chunk that is cut.
use Rattle.std.proofs.Common.{◌≡◌, ℕ, zero, suc, ◌+◌, ◌-◌, ◌<◌, ◌≤◌, T, List, [], ◌∷◌, ◌++◌, length, take, drop, get_or, refl, sym, ap, ◌∙◌, subst, arith}
use Rattle.std.specs.Cmp.{IsTotalOrder}
use Rattle.std.specs.FinMap.Entries.{below_all, put}
use Rattle.std.specs.declared.cmp.Ordering.{Ordering}
use Rattle.std.specs.declared.cmp.Ordering.TheVariants.{Less, Greater}
use Rattle.std.proofs.lemmas.List.{length-drop, length-take-le}
use Rattle.general_words.proofs.Entries.{below_all-append}
use Rattle.general_words.proofs.Orders.{less, is_less, turned}
use Rattle.general_words.proofs.Tests.{both, first, second}
use Rattle.sorted_map.specs.Place.{IsPlace, IsGap}
use Rattle.sorted_map.proofs.RisingLemmas.{find-place}
use Rattle.chunked_map.specs.Chunks.{joined, AreChunks, IsChunkOf, all_before, parted}
use Rattle.chunked_map.proofs.OrderLemmas.{all_before-append, sorted_left, length-put_there}
use Rattle.chunked_map.proofs.ChunkLemmas.{sorted_here}
use Rattle.chunked_map.proofs.JoinLemmas.{take_one_more, sized_at}
use Rattle.chunked_map.proofs.SplitLemmas.{front_few, back_few, take_same, first_of, second_of, length_two, front_place, back_place}

module _ {A : Type 0} where
  get_front : (es : List A) (n k : ℕ) (d : A) → k < n → get_or (take n es) k d ≡ get_or es k d
  get_front es zero k d lt = absurd (omega arith)
  get_front [] (suc n) k d lt = refl
  get_front (e ∷ es) (suc n) zero d lt = refl
  get_front (e ∷ es) (suc n) (suc k) d lt = get_front es n k d (omega arith)

  get_back : (es : List A) (n k : ℕ) (d : A) → get_or (drop n es) k d ≡ get_or es (n + k) d
  get_back es zero k d = let same : k ≡ 0 + k = omega arith in ap (λ m. get_or es m d) same
  get_back [] (suc n) zero d = refl
  get_back [] (suc n) (suc k) d = refl
  get_back (e ∷ es) (suc n) k d =
      let next : suc (n + k) ≡ suc n + k = omega arith in
      get_back es n k d ∙ ap (λ m. get_or (e ∷ es) m d) next

-- a half of a full chunk has room
module _ {K X : Type 0} (R : K → K → Ordering) (cs ds : List (List (K × X))) (at : ℕ) (lt : at < length cs) (are : AreChunks R cs) (e : ds ≡ parted cs at 32) (full : 64 ≤ length (get_or cs at [])) where
  pub room_in_front : length (get_or ds at []) < 64
  room_in_front =
      let few = front_few R cs at lt are full in
      subst (λ (es : List (K × X)). length es < 64) (sym (ap (λ ds. get_or ds at []) e ∙ first_of cs at (take 32 (get_or cs at [])) (drop 32 (get_or cs at []) ∷ []) [] lt)) (omega (arith, few))

  pub room_in_back : (m : ℕ) → m ≡ suc at → length (get_or ds m []) < 64
  room_in_back m next =
      let few = back_few R cs at lt are full in
      subst (λ (es : List (K × X)). length es < 64) (sym (ap (λ m. get_or ds m []) next ∙ ap (λ ds. get_or ds (suc at) []) e ∙ second_of cs at (take 32 (get_or cs at [])) (drop 32 (get_or cs at [])) [] lt)) (omega (arith, few))

module _ {K X : Type 0} (R : K → K → Ordering) (o : IsTotalOrder R) (q : K) where
  -- a key before which all stand would stand behind them
  pub gap_end : (es : List (K × X)) (n : ℕ) → n ≡ length es → T (all_before R q es) → IsGap R es q n
  gap_end es n end h = record {
    in_range = omega arith;
    before = λ k d lt. each es k d (omega arith) h;
    after = λ k d le lt. absurd (omega arith);
  }
    where
      each : (es : List (K × X)) (k : ℕ) (d : K × X) → k < length es → T (all_before R q es)
          → R (get_or es k d).0 q ≡ Less
      each [] k d lt h = absurd (omega arith)
      each (e ∷ es) zero d lt h = less _ (first _ _ h)
      each (e ∷ es) (suc k) d lt h = each es k d (omega arith) (second _ _ h)

  -- so it would at the end of the last chunk
  pub gap_at_end : (cs : List (List (K × X))) (m n : ℕ) → suc m ≡ length cs → n ≡ length (get_or cs m [])
      → T (all_before R q (joined (take (length cs) cs))) → IsGap R (get_or cs m []) q n
  gap_at_end cs m n last end h =
      let parts = ap (λ n. joined (take n cs)) (sym last) ∙ take_one_more cs m [] (omega arith) in
      gap_end (get_or cs m []) n end (all_before-right (joined (take m cs)) (get_or cs m []) (subst (λ es. T (all_before R q es)) parts h))
    where
      all_before-right : (xs ys : List (K × X)) → T (all_before R q (xs ++ ys)) → T (all_before R q ys)
      all_before-right [] ys h = h
      all_before-right (x ∷ xs) ys h = all_before-right xs ys (second _ _ h)

  module _ (c : List (K × X)) (p n : ℕ) (gap : IsGap R c q p) where
    -- in the front, and the back has only larger keys
    pub gap_front : p ≤ n → n ≤ length c → IsGap R (take n c) q p
    gap_front le within =
        let len = length-take-le n c within in
        record {
          in_range = omega arith;
          before = λ k d lt. ap (λ (e : K × X). R e.0 q) (get_front c n k d (omega arith)) ∙ gap.before k d lt;
          after = λ k d ge lt. ap (λ (e : K × X). R e.0 q) (get_front c n k d (omega arith)) ∙ gap.after k d ge (omega arith);
        }

    pub larger_back : p ≤ n → T (below_all R q (drop n c))
    larger_back le = all_larger c n (λ k d ge lt. gap.after k d (omega arith) lt)
      where
        all_larger : (es : List (K × X)) (m : ℕ)
            → ((k : ℕ) (d : K × X) → m ≤ k → k < length es → R (get_or es k d).0 q ≡ Greater)
            → T (below_all R q (drop m es))
        all_larger [] zero h = tt
        all_larger [] (suc m) h = tt
        all_larger (e ∷ es) zero h =
            both _ _ (is_less _ (turned o e.0 q Greater (h 0 e (omega arith) (omega arith)))) (all_larger es zero (λ k d ge lt. h (suc k) d (omega arith) (omega arith)))
        all_larger (e ∷ es) (suc m) h = all_larger es m (λ k d ge lt. h (suc k) d (omega arith) (omega arith))

    -- in the back, and the front has only smaller keys
    pub gap_back : n ≤ p → IsGap R (drop n c) q (p - n)
    gap_back le =
        let len = length-drop n c in
        let most = gap.in_range in
        record {
          in_range = omega arith;
          before = λ k d lt. ap (λ (e : K × X). R e.0 q) (get_back c n k d) ∙ gap.before (n + k) d (omega arith);
          after = λ k d ge lt. ap (λ (e : K × X). R e.0 q) (get_back c n k d) ∙ gap.after (n + k) d (omega arith) (omega arith);
        }

    pub smaller_front : n ≤ p → T (all_before R q (take n c))
    smaller_front le = all_smaller c n (λ k d lt in_list. gap.before k d (omega arith))
      where
        all_smaller : (es : List (K × X)) (m : ℕ)
            → ((k : ℕ) (d : K × X) → k < m → k < length es → R (get_or es k d).0 q ≡ Less)
            → T (all_before R q (take m es))
        all_smaller es zero h = tt
        all_smaller [] (suc m) h = tt
        all_smaller (e ∷ es) (suc m) h =
            both _ _ (is_less _ (h 0 e (omega arith) (omega arith))) (all_smaller es m (λ k d lt in_list. h (suc k) d (omega arith) (omega arith)))

  -- the half of a chunk into which a key belongs, and its gap there
  module _ (cs ds : List (List (K × X))) (at p : ℕ) (lt : at < length cs) (e : ds ≡ parted cs at 32) (gap : IsGap R (get_or cs at []) q p) where
    abbrev half : List (K × X)
    half = take 32 (get_or cs at [])

    abbrev other : List (K × X)
    other = drop 32 (get_or cs at [])

    pub gap_in_front : p ≤ 32 → 32 ≤ length (get_or cs at []) → IsGap R (get_or ds at []) q p
    gap_in_front le full =
        subst (λ es. IsGap R es q p) (sym (ap (λ ds. get_or ds at []) e ∙ first_of cs at half (other ∷ []) [] lt)) (gap_front (get_or cs at []) p 32 gap le full)

    pub gap_in_back : (m n : ℕ) → m ≡ suc at → n ≡ p - 32 → 32 ≤ p → IsGap R (get_or ds m []) q n
    gap_in_back m n next place le =
        let here = ap (λ m. get_or ds m []) next ∙ ap (λ ds. get_or ds (suc at) []) e ∙ second_of cs at half other [] lt in
        subst (λ es. IsGap R es q n) (sym here) (subst (λ n. IsGap R other q n) (sym place) (gap_back (get_or cs at []) p 32 gap le))

    module _ (home : IsChunkOf R cs q at) where
      drop_front : (cs : List (List (K × X))) (at : ℕ) (a b : List (K × X)) → at < length cs
          → joined (drop (suc at) (take at cs ++ (a ∷ b ∷ drop (suc at) cs))) ≡ b ++ joined (drop (suc at) cs)
      drop_front [] at a b lt = absurd (omega arith)
      drop_front (c ∷ cs) zero a b lt = refl
      drop_front (c ∷ cs) (suc at) a b lt = drop_front cs at a b (omega arith)

      pub home_in_front : p ≤ 32 → IsChunkOf R ds q at
      home_in_front le =
          let larger = below_all-append R q other (joined (drop (suc at) cs)) (larger_back (get_or cs at []) p 32 gap le) home.behind in
          subst (λ ds. IsChunkOf R ds q at) (sym e)
          (front_place R cs at lt q home (subst (λ es. T (below_all R q es)) (sym (drop_front cs at half other lt)) larger))

      pub home_in_back : (m : ℕ) → m ≡ suc at → 32 ≤ p → IsChunkOf R ds q m
      home_in_back m next le =
          let within = length_two cs at half other lt in
          let parts = take_one_more (parted cs at 32) at [] (omega arith)
          ∙ (λ i. joined (take_same cs at (half ∷ other ∷ []) lt i) ++ first_of cs at half (other ∷ []) [] lt i) in
          let smaller = all_before-append R q (joined (take at cs)) half home.before (smaller_front (get_or cs at []) p 32 gap le) in
          subst (λ m. IsChunkOf R ds q m) (sym next) (subst (λ ds. IsChunkOf R ds q (suc at)) (sym e)
          (back_place R cs at lt q home (subst (λ es. T (all_before R q es)) (sym parts) smaller)))

-- another value leaves as many entries
module _ {K X : Type 0} (R : K → K → Ordering) (o : IsTotalOrder R) (q : K) (cs : List (List (K × X))) (at : ℕ) (lt : at < length cs) (are : AreChunks R cs) (c : List (K × X)) (is : c ≡ get_or cs at c) where
  pub replaced_few : (p : ℕ) → IsPlace R c q p → (v : X) → length (put R q v c) ≤ 64
  replaced_few p place v =
      let few = (sized_at cs at c lt are.sizes).few in
      let len = ap length is in
      let sorted = sorted_left R c (joined (drop (suc at) cs)) (sorted_here R q o cs are at c lt is) in
      let same = with_first c (omega (arith, place.in_range)) (λ d. length-put_there R q v (get_or c p d).1 c o sorted (find-place R o q c sorted p d place.in_range (place.tied d))) in
      omega (arith, same, few, len)
    where
      with_first : (es : List (K × X)) → 0 < length es → ((d : K × X) → length (put R q v c) ≡ length c)
          → length (put R q v c) ≡ length c
      with_first [] some h = absurd (omega arith)
      with_first (e ∷ es) some h = h e
