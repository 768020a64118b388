-- A range of entries whose keys rise, and what is left without it.
use Rattle.std.proofs.Common.{◌≡◌, ℕ, zero, suc, ◌-◌, ◌<◌, ◌≤◌, Bool, true, false, cond, T, List, [], ◌∷◌, ◌++◌, length, get_or, take, drop, slice_range, refl, ap, subst, ◌∙◌, inl, inr, arith}
use Rattle.std.specs.FinMap.{is_sorted}
use Rattle.std.specs.FinMap.Entries.{where_key}
use Rattle.std.specs.List.{remove_range}
use Rattle.std.specs.List.Sorted.{IsPartitionedBy}
use Rattle.std.specs.declared.cmp.Ordering.{Ordering}
use Rattle.std.specs.declared.cmp.Ordering.TheVariants.{Less}
use Rattle.std.proofs.lemmas.Bool.{cases_lt}
use Rattle.general_words.proofs.Tests.{both, first, second}
use Rattle.general_words.proofs.Entries.{below_all-append, below_all-take, below_all-drop, is_sorted-drop, below_at}

no_range : {A : Type 0} (m n : ℕ) → ◌≡◌ {A = List A} [] (take m (drop n []))
no_range zero n = refl
no_range (suc m) zero = refl
no_range (suc m) (suc n) = refl

no_rest : {A : Type 0} (m n : ℕ) → ◌≡◌ {A = List A} [] (take m [] ++ drop n [])
no_rest zero zero = refl
no_rest zero (suc n) = refl
no_rest (suc m) zero = refl
no_rest (suc m) (suc n) = refl

module _ {K X : Type 0} (R : K → K → Ordering) where
  pub is_sorted-remove_range : (from to : ℕ) (es : List (K × X)) → from ≤ to → T (is_sorted R es)
      → T (is_sorted R (remove_range es from to))
  is_sorted-remove_range from to [] le h = subst (λ fs. T (is_sorted R fs)) (no_rest from to) tt
  is_sorted-remove_range zero to (e ∷ es) le h = is_sorted-drop R to (e ∷ es) h
  is_sorted-remove_range (suc from) zero (e ∷ es) le h = absurd (omega arith)
  is_sorted-remove_range (suc from) (suc to) (e ∷ es) le h =
      both _ _ (below_all-append R e.0 (take from es) (drop to es) (below_all-take R e.0 from es (first _ _ h)) (below_all-drop R e.0 to es (first _ _ h))) (is_sorted-remove_range from to es (omega arith) (second _ _ h))

  -- the entries that pass a test are a range, if those in it pass and no others
  pub where_key-range : (p : K → Bool) (es : List (K × X)) (from to : ℕ) → from ≤ to
      → ((k : ℕ) (d : K × X) → k < from → k < length es → p (get_or es k d).0 ≡ false)
      → ((k : ℕ) (d : K × X) → from ≤ k → k < to → k < length es → p (get_or es k d).0 ≡ true)
      → ((k : ℕ) (d : K × X) → to ≤ k → k < length es → p (get_or es k d).0 ≡ false)
      → where_key R p es ≡ slice_range es from to
  where_key-range p [] from to le before within behind = no_range (to - from) from
  where_key-range p (e ∷ es) zero zero le before within behind =
      ap (λ b. cond b (e ∷ where_key R p es) (where_key R p es)) (behind 0 e (omega arith) (omega arith))
      ∙ where_key-range p es zero zero (omega arith) (λ k d lt in_range. absurd (omega arith)) (λ k d le lt in_range. absurd (omega arith)) (λ k d le in_range. behind (suc k) d (omega arith) (omega arith))
  where_key-range p (e ∷ es) zero (suc to) le before within behind =
      let more : suc (to - zero) ≡ suc to - zero = omega arith in
      ap (λ b. cond b (e ∷ where_key R p es) (where_key R p es)) (within 0 e (omega arith) (omega arith) (omega arith))
      ∙ ap (λ fs. e ∷ fs) (where_key-range p es zero to (omega arith) (λ k d lt in_range. absurd (omega arith)) (λ k d le lt in_range. within (suc k) d (omega arith) (omega arith) (omega arith)) (λ k d le in_range. behind (suc k) d (omega arith) (omega arith)))
      ∙ ap (λ n. take n (e ∷ es)) more
  where_key-range p (e ∷ es) (suc from) zero le before within behind = absurd (omega arith)
  where_key-range p (e ∷ es) (suc from) (suc to) le before within behind =
      let as_many : to - from ≡ suc to - suc from = omega arith in
      ap (λ b. cond b (e ∷ where_key R p es) (where_key R p es)) (before 0 e (omega arith) (omega arith))
      ∙ where_key-range p es from to (omega arith) (λ k d lt in_range. before (suc k) d (omega arith) (omega arith)) (λ k d le lt in_range. within (suc k) d (omega arith) (omega arith) (omega arith)) (λ k d le in_range. behind (suc k) d (omega arith) (omega arith))
      ∙ ap (λ n. take n (drop from es)) as_many

  -- and those that pass are all but a range, if those in it fail and no others
  pub where_key-rest : (p : K → Bool) (es : List (K × X)) (from to : ℕ) → from ≤ to
      → ((k : ℕ) (d : K × X) → k < from → k < length es → p (get_or es k d).0 ≡ true)
      → ((k : ℕ) (d : K × X) → from ≤ k → k < to → k < length es → p (get_or es k d).0 ≡ false)
      → ((k : ℕ) (d : K × X) → to ≤ k → k < length es → p (get_or es k d).0 ≡ true)
      → where_key R p es ≡ remove_range es from to
  where_key-rest p [] from to le before within behind = no_rest from to
  where_key-rest p (e ∷ es) zero zero le before within behind =
      ap (λ b. cond b (e ∷ where_key R p es) (where_key R p es)) (behind 0 e (omega arith) (omega arith))
      ∙ ap (λ fs. e ∷ fs) (where_key-rest p es zero zero (omega arith) (λ k d lt in_range. absurd (omega arith)) (λ k d le lt in_range. absurd (omega arith)) (λ k d le in_range. behind (suc k) d (omega arith) (omega arith)))
  where_key-rest p (e ∷ es) zero (suc to) le before within behind =
      ap (λ b. cond b (e ∷ where_key R p es) (where_key R p es)) (within 0 e (omega arith) (omega arith) (omega arith))
      ∙ where_key-rest p es zero to (omega arith) (λ k d lt in_range. absurd (omega arith)) (λ k d le lt in_range. within (suc k) d (omega arith) (omega arith) (omega arith)) (λ k d le in_range. behind (suc k) d (omega arith) (omega arith))
  where_key-rest p (e ∷ es) (suc from) zero le before within behind = absurd (omega arith)
  where_key-rest p (e ∷ es) (suc from) (suc to) le before within behind =
      ap (λ b. cond b (e ∷ where_key R p es) (where_key R p es)) (before 0 e (omega arith) (omega arith))
      ∙ ap (λ fs. e ∷ fs) (where_key-rest p es from to (omega arith) (λ k d lt in_range. before (suc k) d (omega arith) (omega arith)) (λ k d le lt in_range. within (suc k) d (omega arith) (omega arith) (omega arith)) (λ k d le in_range. behind (suc k) d (omega arith) (omega arith)))

  rises : (es : List (K × X)) → T (is_sorted R es) → (i j : ℕ) (d : K × X) → i < j → j < length es
      → R (get_or es i d).0 (get_or es j d).0 ≡ Less
  rises [] h i j d lt in_range = absurd (omega arith)
  rises (e ∷ es) h i zero d lt in_range = absurd (omega arith)
  rises (e ∷ es) h zero (suc j) d lt in_range = below_at R e.0 es (first _ _ h) j d (omega arith)
  rises (e ∷ es) h (suc i) (suc j) d lt in_range = rises es (second _ _ h) i j d (omega arith) (omega arith)

  -- a test that holds before each key of which it holds parts the entries in two
  pub parts_in_two : (es : List (K × X)) → T (is_sorted R es) → (p : K → Bool)
      → ((x y : K) → R x y ≡ Less → p y ≡ true → p x ≡ true) → IsPartitionedBy (λ e. p e.0) es
  parts_in_two es h p closed i j d le in_range holds = elim (cases_lt i j) [
    | inl lt ↦ closed _ _ (rises es h i j d lt in_range) holds
    | inr ge ↦ let same : i ≡ j = omega arith in ap (λ n. p (get_or es n d).0) same ∙ holds
  ]
