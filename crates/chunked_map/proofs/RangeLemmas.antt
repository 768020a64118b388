-- Chunks by the places of their entries in the order of all keys.
use Rattle.std.proofs.Common.{◌≡◌, ℕ, zero, suc, ◌+◌, ◌-◌, ◌<◌, ◌≤◌, T, List, [], ◌∷◌, ◌++◌, length, take, drop, get_or, slice_get, slice_range, refl, sym, ap, ◌∙◌, subst, inl, inr, arith}
use Rattle.std.specs.FinMap.{is_sorted}
use Rattle.std.specs.List.{AllByRecursion, remove_range}
use Rattle.std.specs.declared.cmp.Ordering.{Ordering}
use Rattle.std.proofs.lemmas.Bool.{cases_lt}
use Rattle.std.proofs.lemmas.List.{length-append, length-take-le, length-drop, drop_at}
use Rattle.general_words.proofs.Entries.{is_sorted-slice_range}
use Rattle.general_words.proofs.Lists.{same_default}
use Rattle.sorted_map.proofs.RangeLemmas.{is_sorted-remove_range}
use Rattle.chunked_map.specs.Chunks.{joined, IsSized, AreChunks, in_place, parted}
use Rattle.chunked_map.proofs.JoinLemmas.{joined-append, joined_parts, joined-one, joined_at, take_one_more, sized-take, sized-drop, sized-append}

-- what is left of a place is left in a chunk
pub in_a_chunk : (at n left : ℕ) → (n ≤ at → left ≡ 0) → (left ≡ 0 → ⊥) → at < n
in_a_chunk at n left behind some = elim (cases_lt at n) [ inl lt ↦ lt | inr le ↦ absurd (some (behind le)) ]

module _ {A : Type 0} where
  pub take_front : (cs : List A) (at m : ℕ) (others : List A) → at < length cs → m ≤ at
      → take m (in_place cs at others) ≡ take m cs
  take_front cs at zero others lt le = refl
  take_front [] at (suc m) others lt le = absurd (omega arith)
  take_front (c ∷ cs) zero (suc m) others lt le = absurd (omega arith)
  take_front (c ∷ cs) (suc at) (suc m) others lt le =
      ap (λ ds. c ∷ ds) (take_front cs at m others (omega arith) (omega arith))

  take_first : (cs : List A) (at : ℕ) (a : A) (others : List A) → at < length cs
      → take (suc at) (in_place cs at (a ∷ others)) ≡ take at cs ++ a ∷ []
  take_first [] at a others lt = absurd (omega arith)
  take_first (c ∷ cs) zero a others lt = refl
  take_first (c ∷ cs) (suc at) a others lt = ap (λ ds. c ∷ ds) (take_first cs at a others (omega arith))

  take_two : (cs : List A) (m n : ℕ) → m ≤ n → take n cs ≡ take m cs ++ take (n - m) (drop m cs)
  take_two cs zero n le = ap (λ k. take k cs) (omega_same n)
    where
      omega_same : (n : ℕ) → n ≡ n - 0
      omega_same n = omega arith
  take_two cs (suc m) zero le = absurd (omega arith)
  take_two [] (suc m) (suc n) le = sym (none (suc n - suc m))
    where
      none : (k : ℕ) → ◌≡◌ {A = List A} (take k []) []
      none zero = refl
      none (suc k) = refl
  take_two (c ∷ cs) (suc m) (suc n) le =
      ap (λ ds. c ∷ ds) (take_two cs m n (omega arith) ∙ ap (λ k. take m cs ++ take k (drop m cs)) (fewer n m))
    where
      fewer : (n m : ℕ) → n - m ≡ suc n - suc m
      fewer n m = omega arith

  take_at : (xs ys : List A) (n : ℕ) → length xs ≡ n → take n (xs ++ ys) ≡ xs
  take_at [] ys zero e = refl
  take_at [] ys (suc n) e = absurd (omega arith)
  take_at (x ∷ xs) ys zero e = absurd (omega arith)
  take_at (x ∷ xs) ys (suc n) e = ap (λ es. x ∷ es) (take_at xs ys n (omega arith))

-- as many chunks as were there are there where they are the same
pub still_within : {A : Type 0} (b : ℕ) (cs ds : List A) → take b ds ≡ take b cs → b ≤ length cs → b ≤ length ds
still_within b cs ds same within = at_least b ds (ap length same ∙ length-take-le b cs within)
  where
    at_least : {A : Type 0} (b : ℕ) (ds : List A) → length (take b ds) ≡ b → b ≤ length ds
    at_least zero ds e = omega arith
    at_least (suc b) [] e = absurd (omega arith)
    at_least (suc b) (d ∷ ds) e = let more = at_least b ds (omega arith) in omega arith

module _ {A : Type 0} where
  -- more chunks have no fewer entries
  pub no_fewer : (cs : List (List A)) (m n : ℕ) → m ≤ n → length (joined (take m cs)) ≤ length (joined (take n cs))
  no_fewer cs zero n le = omega arith
  no_fewer cs (suc m) zero le = absurd (omega arith)
  no_fewer [] (suc m) (suc n) le = omega arith
  no_fewer (c ∷ cs) (suc m) (suc n) le =
      let more = no_fewer cs m n (omega arith) in
      let a = length-append c (joined (take m cs)) in
      let b = length-append c (joined (take n cs)) in
      omega arith

  -- and more sized chunks have more
  pub has_more : (cs : List (List A)) (m n : ℕ) → AllByRecursion IsSized cs → m < n → n ≤ length cs
      → length (joined (take m cs)) < length (joined (take n cs))
  has_more cs m zero h lt le = absurd (omega arith)
  has_more [] m (suc n) h lt le = absurd (omega arith)
  has_more (c ∷ cs) zero (suc n) h lt le =
      let some = h.0.some in
      let a = length-append c (joined (take n cs)) in
      omega arith
  has_more (c ∷ cs) (suc m) (suc n) h lt le =
      let more = has_more cs m n h.1 (omega arith) (omega arith) in
      let a = length-append c (joined (take m cs)) in
      let b = length-append c (joined (take n cs)) in
      omega arith

  pub begins_at : (cs ds : List (List A)) (at n k p : ℕ) → at < length cs → ds ≡ parted cs at n
      → n ≤ length (get_or cs at []) → k ≡ suc at → length (joined (take at cs)) + n ≡ p
      → length (joined (take k ds)) ≡ p
  begins_at cs ds at n k p lt is le next place =
      let cut = take n (get_or cs at []) in
      let parts = (λ i. joined (take (next i) (is i))) ∙ ap joined (take_first cs at cut (drop n (get_or cs at []) ∷ []) lt) ∙ joined-append (take at cs) (cut ∷ []) ∙ ap (λ es. joined (take at cs) ++ es) (joined-one cut) in
      let len = ap length parts ∙ length-append (joined (take at cs)) cut in
      let m = length-take-le n (get_or cs at []) le in
      omega arith

  pub same_front : (cs ds : List (List A)) (at n p : ℕ) → at < length cs → ds ≡ parted cs at n
      → n < length (get_or cs at []) → length (joined (take at cs)) + n ≡ p
      → (m : ℕ) → m ≤ length cs → length (joined (take m cs)) ≤ p → take m ds ≡ take m cs
  same_front cs ds at n p lt is inside place m le fits = elim (cases_lt at m) [
    | inl behind ↦
        let more = no_fewer cs (suc at) m behind in
        let len = ap length (take_one_more cs at [] lt) ∙ length-append (joined (take at cs)) (get_or cs at []) in
        absurd (omega arith)
    | inr before ↦ ap (take m) is ∙ take_front cs at m (take n (get_or cs at []) ∷ drop n (get_or cs at []) ∷ []) lt before
  ]

  -- the chunks between two places have the entries between them
  module _ (cs : List (List A)) (b e from to : ℕ) (order : b ≤ e) (begins : length (joined (take b cs)) ≡ from) (ends : length (joined (take e cs)) ≡ to) where
    cut_front : (ds : List (List A)) (k n : ℕ) → length (joined (take k ds)) ≡ n
        → take n (joined ds) ≡ joined (take k ds)
    cut_front ds k n len =
        ap (take n) (sym (joined_parts ds k)) ∙ take_at (joined (take k ds)) (joined (drop k ds)) n len

    cut_back : (ds : List (List A)) (k n : ℕ) → length (joined (take k ds)) ≡ n
        → drop n (joined ds) ≡ joined (drop k ds)
    cut_back ds k n len =
        ap (drop n) (sym (joined_parts ds k)) ∙ drop_at (joined (take k ds)) (joined (drop k ds)) n len

    between : length (joined (take (e - b) (drop b cs))) ≡ to - from
    between =
        let whole = ap length (ap joined (take_two cs b e order) ∙ joined-append (take b cs) (take (e - b) (drop b cs))) ∙ length-append (joined (take b cs)) (joined (take (e - b) (drop b cs))) in
        omega arith

    pub joined_slice : joined (slice_range cs b e) ≡ slice_range (joined cs) from to
    joined_slice =
        sym (ap (take (to - from)) (cut_back cs b from begins) ∙ cut_front (drop b cs) (e - b) (to - from) between)

    pub joined_rest : joined (remove_range cs b e) ≡ remove_range (joined cs) from to
    joined_rest =
        joined-append (take b cs) (drop e cs) ∙ sym (λ i. cut_front cs b from begins i ++ cut_back cs e to ends i)

module _ {K X : Type 0} (R : K → K → Ordering) (cs : List (List (K × X))) (are : AreChunks R cs) (b e from to : ℕ) (begins : length (joined (take b cs)) ≡ from) (ends : length (joined (take e cs)) ≡ to) where
  -- the place that comes first begins no later chunk
  pub in_order : from ≤ to → b ≤ length cs → b ≤ e
  in_order le within = elim (cases_lt e b) [
    | inl lt ↦ let more = has_more cs e b are.sizes lt within in absurd (omega arith)
    | inr order ↦ order
  ]

  pub slice_are : b ≤ e → e ≤ length cs → AreChunks R (slice_range cs b e)
  slice_are order within = record {
    sorted = subst (λ es. T (is_sorted R es)) (sym (joined_slice cs b e from to order begins ends)) (is_sorted-slice_range R from to (joined cs) are.sorted);
    sizes = sized-take (e - b) (drop b cs) (sized-drop b cs are.sizes);
    count = let n = length-drop b cs in let m = length-take-le (e - b) (drop b cs) (omega arith) in let most = are.count in omega arith;
  }

  pub rest_are : b ≤ e → from ≤ to → e ≤ length cs → AreChunks R (remove_range cs b e)
  rest_are order le within = record {
    sorted = subst (λ es. T (is_sorted R es)) (sym (joined_rest cs b e from to order begins ends)) (is_sorted-remove_range R from to (joined cs) le are.sorted);
    sizes = sized-append (take b cs) (drop e cs) (sized-take b cs are.sizes) (sized-drop e cs are.sizes);
    count =
        let n = length-append (take b cs) (drop e cs) in
        let m = length-take-le b cs (omega arith) in
        let k = length-drop e cs in
        let most = are.count in
        omega arith;
  }

-- an entry by its place among all is an entry of its chunk
module _ {A : Type 0} where
  past_front : (xs zs : List A) (n p : ℕ) → length xs + n ≡ p → slice_get (xs ++ zs) p ≡ slice_get zs n
  past_front [] zs n p e = let same : p ≡ n = omega arith in ap (slice_get zs) same
  past_front (x ∷ xs) zs n zero e = absurd (omega arith)
  past_front (x ∷ xs) zs n (suc p) e = past_front xs zs n p (omega arith)

  in_first : (c ys : List A) (n : ℕ) → n < length c → slice_get (c ++ ys) n ≡ slice_get c n
  in_first [] ys n lt = absurd (omega arith)
  in_first (e ∷ c) ys zero lt = refl
  in_first (e ∷ c) ys (suc n) lt = in_first c ys n (omega arith)

  pub get_in : (cs : List (List A)) (at n p : ℕ) (c : List A) → at < length cs → c ≡ get_or cs at c
      → length (joined (take at cs)) + n ≡ p → n < length (get_or cs at []) → slice_get c n ≡ slice_get (joined cs) p
  get_in cs at n p c lt is place inside =
      let one = same_default cs at [] c lt ∙ sym is in
      let len = ap length one in
      sym (ap (λ es. slice_get es p) (joined_at cs at c lt ∙ ap (λ es. joined (take at cs) ++ (es ++ joined (drop (suc at) cs))) (sym is))
      ∙ past_front (joined (take at cs)) (c ++ joined (drop (suc at) cs)) n p place
      ∙ in_first c (joined (drop (suc at) cs)) n (omega arith))
