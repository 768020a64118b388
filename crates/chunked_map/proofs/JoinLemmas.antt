-- Chunks with others in the place of one.
use Rattle.std.proofs.Common.{◌≡◌, ℕ, zero, suc, ◌*◌, ◌<◌, ◌≤◌, T, List, [], ◌∷◌, ◌++◌, length, take, drop, get_or, set, Result, Ok, Err, OnOk, OnErr, refl, sym, ap, ◌∙◌, subst, arith, append-nil, append_assoc}
use Rattle.std.specs.List.{AllByRecursion}
use Rattle.std.specs.FinMap.{is_sorted}
use Rattle.std.specs.declared.cmp.Ordering.{Ordering}
use Rattle.std.specs.FinMap.Entries.{put}
use Rattle.sorted_map.specs.Merge.{put_all}
use Rattle.std.proofs.lemmas.Grind.{flat_map-append}
use Rattle.std.proofs.lemmas.List.{set_split, set-get_or, take-append-drop, length-append}
use Rattle.chunked_map.specs.Chunks.{joined, IsSized, in_place}
use Rattle.chunked_map.proofs.OrderLemmas.{sorted_left, sorted_right}

pub positive : (n : ℕ) → (n ≡ 0 → ⊥) → 0 < n
positive zero h = absurd (h refl)
positive (suc n) h = omega arith

-- what follows from a good result and from a bad one
pub either_way : {A E P Q : Type 0} {G : Type 0} (r : Result A E) → OnOk r P → OnErr r Q → (P → G) → (Q → G) → G
either_way (Ok x) p q f g = f p
either_way (Err e) p q f g = g q

module _ {A : Type 0} where
  pub joined-append : (cs ds : List (List A)) → joined (cs ++ ds) ≡ joined cs ++ joined ds
  joined-append cs ds = flat_map-append (λ (c : List A). c) cs ds

  pub joined-in_place : (cs : List (List A)) (at : ℕ) (others : List (List A))
      → joined (in_place cs at others) ≡ joined (take at cs) ++ (joined others ++ joined (drop (suc at) cs))
  joined-in_place cs at others =
      joined-append (take at cs) (others ++ drop (suc at) cs)
      ∙ ap (λ es. joined (take at cs) ++ es) (joined-append others (drop (suc at) cs))

  pub joined-one : (c : List A) → joined (c ∷ []) ≡ c
  joined-one c = append-nil c

  pub joined_set : (cs : List (List A)) (at : ℕ) (c : List A) → at < length cs
      → joined (set cs at c) ≡ joined (take at cs) ++ (c ++ joined (drop (suc at) cs))
  joined_set cs at c lt =
      ap joined (set_split cs at c lt) ∙ joined-in_place cs at (c ∷ [])
      ∙ ap (λ es. joined (take at cs) ++ (es ++ joined (drop (suc at) cs))) (joined-one c)

  pub joined_at : (cs : List (List A)) (at : ℕ) (d : List A) → at < length cs
      → joined cs ≡ joined (take at cs) ++ (get_or cs at d ++ joined (drop (suc at) cs))
  joined_at cs at d lt = sym (ap joined (set-get_or cs at d)) ∙ joined_set cs at (get_or cs at d) lt

  -- chunks up to a place, and those from there on
  pub joined_parts : (cs : List (List A)) (at : ℕ) → joined (take at cs) ++ joined (drop at cs) ≡ joined cs
  joined_parts cs at = sym (joined-append (take at cs) (drop at cs)) ∙ ap joined (take-append-drop at cs)

  pub take_one_more : (cs : List (List A)) (at : ℕ) (d : List A) → at < length cs
      → joined (take (suc at) cs) ≡ joined (take at cs) ++ get_or cs at d
  take_one_more [] at d lt = absurd (omega arith)
  take_one_more (c ∷ cs) zero d lt = append-nil c
  take_one_more (c ∷ cs) (suc at) d lt =
      ap (λ es. c ++ es) (take_one_more cs at d (omega arith))
      ∙ sym (append_assoc c (joined (take at cs)) (get_or cs at d))

  pub drop_one_less : (cs : List (List A)) (at : ℕ) (d : List A) → at < length cs
      → joined (drop at cs) ≡ get_or cs at d ++ joined (drop (suc at) cs)
  drop_one_less [] at d lt = absurd (omega arith)
  drop_one_less (c ∷ cs) zero d lt = refl
  drop_one_less (c ∷ cs) (suc at) d lt = drop_one_less cs at d (omega arith)

  pub sized_at : (cs : List (List A)) (at : ℕ) (d : List A) → at < length cs → AllByRecursion IsSized cs
      → IsSized (get_or cs at d)
  sized_at [] at d lt h = absurd (omega arith)
  sized_at (c ∷ cs) zero d lt h = h.0
  sized_at (c ∷ cs) (suc at) d lt h = sized_at cs at d (omega arith) h.1

  pub sized-append : (cs ds : List (List A)) → AllByRecursion IsSized cs → AllByRecursion IsSized ds
      → AllByRecursion IsSized (cs ++ ds)
  sized-append [] ds g h = h
  sized-append (c ∷ cs) ds g h = (g.0, sized-append cs ds g.1 h)

  pub sized-take : (n : ℕ) (cs : List (List A)) → AllByRecursion IsSized cs → AllByRecursion IsSized (take n cs)
  sized-take zero cs h = tt
  sized-take (suc n) [] h = tt
  sized-take (suc n) (c ∷ cs) h = (h.0, sized-take n cs h.1)

  pub sized-drop : (n : ℕ) (cs : List (List A)) → AllByRecursion IsSized cs → AllByRecursion IsSized (drop n cs)
  sized-drop zero cs h = h
  sized-drop (suc n) [] h = tt
  sized-drop (suc n) (c ∷ cs) h = sized-drop n cs h.1

  pub sized-in_place : (cs : List (List A)) (at : ℕ) (others : List (List A)) → AllByRecursion IsSized cs
      → AllByRecursion IsSized others → AllByRecursion IsSized (in_place cs at others)
  sized-in_place cs at others g h =
      sized-append (take at cs) (others ++ drop (suc at) cs) (sized-take at cs g) (sized-append others (drop (suc at) cs) h (sized-drop (suc at) cs g))

  pub length_sized : (cs : List (List A)) → AllByRecursion IsSized cs → length (joined cs) ≤ 64 * length cs
  length_sized [] h = omega arith
  length_sized (c ∷ cs) h =
      let more = length_sized cs h.1 in
      let few = h.0.few in
      rw (length-append c (joined cs)) (omega arith)

module _ {K X : Type 0} (R : K → K → Ordering) (cs : List (List (K × X))) (h : T (is_sorted R (joined cs))) where
  -- the keys of the chunks up to a place, and from there on, are in order
  pub sorted-take : (at : ℕ) → T (is_sorted R (joined (take at cs)))
  sorted-take at =
      sorted_left R (joined (take at cs)) (joined (drop at cs)) (subst (λ es. T (is_sorted R es)) (sym (joined_parts cs at)) h)

  pub sorted-drop : (at : ℕ) → T (is_sorted R (joined (drop at cs)))
  sorted-drop at =
      sorted_right R (joined (take at cs)) (joined (drop at cs)) (subst (λ es. T (is_sorted R es)) (sym (joined_parts cs at)) h)

-- to put the entries of some chunks among others is to put those of the first, and then those of the rest
pub put_all-append : {K X : Type 0} (R : K → K → Ordering) (xs ys es : List (K × X))
    → put_all R (xs ++ ys) es ≡ put_all R ys (put_all R xs es)
put_all-append R [] ys es = refl
put_all-append R (x ∷ xs) ys es = put_all-append R xs ys (put R x.0 x.1 es)
