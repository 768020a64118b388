-- Chunks with one cut in two.
use Rattle.std.proofs.Common.{◌≡◌, ℕ, zero, suc, ◌+◌, ◌<◌, ◌≤◌, ◌^◌, ◌-◌, T, List, [], ◌∷◌, ◌++◌, length, take, drop, get_or, set, slice_range, refl, sym, ap, ◌∙◌, subst, arith, append-nil}
use Rattle.std.specs.FinMap.{is_sorted}
use Rattle.std.specs.FinMap.Entries.{below_all}
use Rattle.std.specs.List.{insert, remove_range}
use Rattle.std.specs.declared.cmp.Ordering.{Ordering}
use Rattle.std.proofs.lemmas.List.{take-append-drop, take_all, drop_all, length-take-le, length-drop}
use Rattle.general_words.proofs.Lists.{same_default}
use Rattle.chunked_map.specs.Chunks.{joined, AreChunks, IsChunkOf, all_before, in_place, parted}
use Rattle.chunked_map.proofs.JoinLemmas.{joined-in_place, joined_at, sized-in_place, sized_at}

module _ {A : Type 0} where
  pub take_same : (cs : List A) (at : ℕ) (others : List A) → at < length cs
      → take at (in_place cs at others) ≡ take at cs
  take_same [] at others lt = absurd (omega arith)
  take_same (c ∷ cs) zero others lt = refl
  take_same (c ∷ cs) (suc at) others lt = ap (λ ds. c ∷ ds) (take_same cs at others (omega arith))

  pub drop_two : (cs : List A) (at : ℕ) (a b : A) → at < length cs
      → drop (suc (suc at)) (in_place cs at (a ∷ b ∷ [])) ≡ drop (suc at) cs
  drop_two [] at a b lt = absurd (omega arith)
  drop_two (c ∷ cs) zero a b lt = refl
  drop_two (c ∷ cs) (suc at) a b lt = drop_two cs at a b (omega arith)

  pub first_of : (cs : List A) (at : ℕ) (a : A) (others : List A) (d : A) → at < length cs
      → get_or (in_place cs at (a ∷ others)) at d ≡ a
  first_of [] at a others d lt = absurd (omega arith)
  first_of (c ∷ cs) zero a others d lt = refl
  first_of (c ∷ cs) (suc at) a others d lt = first_of cs at a others d (omega arith)

  pub second_of : (cs : List A) (at : ℕ) (a b : A) (d : A) → at < length cs
      → get_or (in_place cs at (a ∷ b ∷ [])) (suc at) d ≡ b
  second_of [] at a b d lt = absurd (omega arith)
  second_of (c ∷ cs) zero a b d lt = refl
  second_of (c ∷ cs) (suc at) a b d lt = second_of cs at a b d (omega arith)

  pub length_two : (cs : List A) (at : ℕ) (a b : A) → at < length cs
      → length (in_place cs at (a ∷ b ∷ [])) ≡ suc (length cs)
  length_two [] at a b lt = absurd (omega arith)
  length_two (c ∷ cs) zero a b lt = refl
  length_two (c ∷ cs) (suc at) a b lt = ap suc (length_two cs at a b (omega arith))

  two : (cs : List A) (at : ℕ) (a b : A) → at < length cs
      → insert (set cs at a) (suc at) b ≡ in_place cs at (a ∷ b ∷ [])
  two [] at a b lt = absurd (omega arith)
  two (c ∷ cs) zero a b lt = refl
  two (c ∷ cs) (suc at) a b lt = ap (λ ds. c ∷ ds) (two cs at a b (omega arith))

-- the back of a chunk, taken out of it and put behind what is left
pub parted_is : {A : Type 0} (cs : List (List A)) (at k : ℕ) (c a b : List A) (n : ℕ) → at < length cs
    → c ≡ get_or cs at c → n ≡ length (get_or cs at [])
    → a ≡ remove_range c k n → b ≡ slice_range c k n → insert (set cs at a) (at + 1) b ≡ parted cs at k
parted_is cs at k c a b n lt is len front back =
    let one = is ∙ same_default cs at c [] lt in
    let whole : length c ≡ n = ap length one ∙ sym len in
    let left : a ≡ take k (get_or cs at []) = front ∙ ap (λ es. take k c ++ es) (drop_all n c (omega arith)) ∙ append-nil (take k c) ∙ ap (take k) one in
    let m = length-drop k c in
    let right : b ≡ drop k (get_or cs at []) = back ∙ take_all (n - k) (drop k c) (omega arith) ∙ ap (drop k) one in
    let next : at + 1 ≡ suc at = omega arith in
    ap (λ j. insert (set cs at a) j b) next ∙ two cs at a b lt ∙ (λ i. in_place cs at (left i ∷ right i ∷ []))

module _ {K X : Type 0} (R : K → K → Ordering) (cs : List (List (K × X))) (at : ℕ) (lt : at < length cs) where
  -- the chunk that is cut, and its two halves
  abbrev pub cut_one : List (K × X)
  cut_one = get_or cs at []

  pub joined_parted : (n : ℕ) → joined (parted cs at n) ≡ joined cs
  joined_parted n =
      joined-in_place cs at (take n cut_one ∷ drop n cut_one ∷ [])
      ∙ ap (λ es. joined (take at cs) ++ (es ++ joined (drop (suc at) cs))) (ap (λ es. take n cut_one ++ es) (append-nil (drop n cut_one)) ∙ take-append-drop n cut_one)
      ∙ sym (joined_at cs at [] lt)

  pub parted_are : AreChunks R cs → (n : ℕ) → 0 < n → n < length cut_one → length cs < 2 ^ 57
      → AreChunks R (parted cs at n)
  parted_are are n some fewer room =
      let few = (sized_at cs at [] lt are.sizes).few in
      let front = length-take-le n cut_one (omega arith) in
      let back = length-drop n cut_one in
      let more = length_two cs at (take n cut_one) (drop n cut_one) lt in
      record {
        sorted = subst (λ es. T (is_sorted R es)) (sym (joined_parted n)) are.sorted;
        sizes = sized-in_place cs at (take n cut_one ∷ drop n cut_one ∷ []) are.sizes (record { some = omega arith; few = omega arith }, (record { some = omega arith; few = omega arith }, tt));
        count = omega arith;
      }

  module _ (are : AreChunks R cs) (full : 64 ≤ length cut_one) where
    pub front_few : length (take 32 cut_one) ≡ 32
    front_few = length-take-le 32 cut_one (omega arith)

    pub back_few : length (drop 32 cut_one) ≡ 32
    back_few = let few = (sized_at cs at [] lt are.sizes).few in let n = length-drop 32 cut_one in omega arith

    pub halved_are : length cs < 2 ^ 57 → AreChunks R (parted cs at 32)
    halved_are room = parted_are are 32 (omega arith) (omega arith) room

  module _ (q : K) (place : IsChunkOf R cs q at) where
    pub front_place : T (below_all R q (joined (drop (suc at) (parted cs at 32)))) → IsChunkOf R (parted cs at 32) q at
    front_place behind = record {
      within = let n = length_two cs at (take 32 cut_one) (drop 32 cut_one) lt in omega arith;
      before = subst (λ es. T (all_before R q (joined es))) (sym (take_same cs at (take 32 cut_one ∷ drop 32 cut_one ∷ []) lt)) place.before;
      behind = behind;
    }

    pub back_place : T (all_before R q (joined (take (suc at) (parted cs at 32))))
        → IsChunkOf R (parted cs at 32) q (suc at)
    back_place before = record {
      within = let n = length_two cs at (take 32 cut_one) (drop 32 cut_one) lt in omega arith;
      before = before;
      behind = subst (λ es. T (below_all R q (joined es))) (sym (drop_two cs at (take 32 cut_one) (drop 32 cut_one) lt)) place.behind;
    }
