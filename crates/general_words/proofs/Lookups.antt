-- What a map answers behind an insertion, where only one key ties with a key.
use Rattle.std.proofs.Common.{◌≡◌, ◌≢◌, ◌⊎◌, true, false, cond, Some, None, refl, sym, ap, ◌∙◌, inl, inr}
use Rattle.std.specs.Cmp.{IsTotalOrder}
use Rattle.std.specs.FinMap as map
use Rattle.std.specs.FinMap.{FinMap, IsAntisymmetric}
use Rattle.std.specs.Ordering.{eq_by_cmp, is_eq}
use Rattle.std.specs.declared.cmp.Ordering.{Ordering}
use Rattle.std.specs.declared.cmp.Ordering.TheVariants.{Less, Equal, Greater}

tells : {K : Type 0} (q k : K) (o : Ordering) → (o ≡ Equal → q ≡ k) → (is_eq o ≡ false) ⊎ ((is_eq o ≡ true) × (q ≡ k))
tells q k Less same = inl refl
tells q k Equal same = inr (refl, same refl)
tells q k Greater same = inl refl

-- two keys are told apart, or they are one
pub tied_or_not : {K : Type 0} {R : K → K → Ordering} → IsAntisymmetric R → (q k : K)
    → (eq_by_cmp R q k ≡ false) ⊎ ((eq_by_cmp R q k ≡ true) × (q ≡ k))
tied_or_not {R = R} same q k = tells q k (R q k) (same q k)

module _ {K X : Type 0} {R : K → K → Ordering} (total : IsTotalOrder R) where
  module _ (same : IsAntisymmetric R) (m : FinMap R X) (k : K) (v : X) (q : K) where
    -- what is found at another key was there before
    pub get-elsewhere : q ≢ k → map.get (map.insert m k v) q ≡ map.get m q
    get-elsewhere other = elsewhere (tied_or_not {R = R} same q k)
      where
        elsewhere : (eq_by_cmp R q k ≡ false) ⊎ ((eq_by_cmp R q k ≡ true) × (q ≡ k))
            → map.get (map.insert m k v) q ≡ map.get m q
        elsewhere (inl differ) = map.get-insert total m k v q ∙ ap (λ b. cond b (Some v) (map.get m q)) differ
        elsewhere (inr tied) = absurd (other tied.1)

    -- what is found behind an insertion was there, or was inserted
    pub get-cases : (x : X) → map.get (map.insert m k v) q ≡ Some x → (map.get m q ≡ Some x) ⊎ ((q ≡ k) × (v ≡ x))
    get-cases x found = cases (tied_or_not {R = R} same q k)
      where
        cases : (eq_by_cmp R q k ≡ false) ⊎ ((eq_by_cmp R q k ≡ true) × (q ≡ k))
            → (map.get m q ≡ Some x) ⊎ ((q ≡ k) × (v ≡ x))
        cases (inl differ) =
            inl (sym (map.get-insert total m k v q ∙ ap (λ b. cond b (Some v) (map.get m q)) differ) ∙ found)
        cases (inr tied) =
            let here : Some v ≡ Some x = sym (map.get-insert total m k v q ∙ ap (λ b. cond b (Some v) (map.get m q)) tied.0) ∙ found in
            inr (tied.1, cc)

    -- a key that isn't in a map is none of those that are
    pub get-apart : (x : X) → map.get m k ≡ None → map.get m q ≡ Some x → q ≢ k
    get-apart x none found e = let here : map.get m q ≡ map.get m k = ap (map.get m) e in absurd cc
