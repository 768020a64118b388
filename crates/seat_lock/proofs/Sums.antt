-- Sums over lists of views, read by `get_elem?`.
use Rattle.std.proofs.Common.{◌≡◌, ◌≢◌, ℕ, zero, suc, ◌+◌, ◌<◌, ◌≤◌, List, [], ◌∷◌, ◌++◌, set, take, drop, sym, refl, ap, arith}
use mathlib.Core.Option.{some, some-ne-none, some-injective}
use native.Mathlib.Decide.{dec_le}
use lib.ListN.{get_elem?}
use Rattle.seat_lock.specs.Rule.{total}

module _ {A : Type 0} (f : A → ℕ) where
  -- what changes where one element does
  pub total-set : (l : List A) (i : ℕ) (a b : A) → get_elem? l i ≡ some a → total f (set l i b) + f a ≡ total f l + f b
  total-set [] i a b e = absurd (some-ne-none a (sym e))
  total-set (x ∷ xs) zero a b e = let same : f x ≡ f a = ap f (some-injective x a e) in omega arith
  total-set (x ∷ xs) (suc i) a b e = let rest = total-set xs i a b e in omega arith

  pub total-append : (l m : List A) → total f (l ++ m) ≡ total f l + total f m
  total-append [] m = omega arith
  total-append (x ∷ xs) m = let rest = total-append xs m in omega arith

  pub total-cut : (count : ℕ) (l : List A) → total f (take count l) + total f (drop count l) ≡ total f l
  total-cut zero l = omega arith
  total-cut (suc count) [] = omega arith
  total-cut (suc count) (x ∷ xs) = let rest = total-cut count xs in omega arith

  pub total-one : (l : List A) (i : ℕ) (a : A) → get_elem? l i ≡ some a → f a ≤ total f l
  total-one [] i a e = absurd (some-ne-none a (sym e))
  total-one (x ∷ xs) zero a e = let same : f x ≡ f a = ap f (some-injective x a e) in omega arith
  total-one (x ∷ xs) (suc i) a e = let rest = total-one xs i a e in omega arith

  -- two different places weigh no more than all
  pub total-two : (l : List A) (i j : ℕ) (a b : A) → i ≢ j → get_elem? l i ≡ some a → get_elem? l j ≡ some b
      → f a + f b ≤ total f l
  total-two [] i j a b ne d e = absurd (some-ne-none a (sym d))
  total-two (x ∷ xs) zero zero a b ne d e = absurd (ne refl)
  total-two (x ∷ xs) zero (suc j) a b ne d e =
      let same : f x ≡ f a = ap f (some-injective x a d) in let rest = total-one xs j b e in omega arith
  total-two (x ∷ xs) (suc i) zero a b ne d e =
      let same : f x ≡ f b = ap f (some-injective x b e) in let rest = total-one xs i a d in omega arith
  total-two (x ∷ xs) (suc i) (suc j) a b ne d e =
      let rest = total-two xs i j a b (λ same. ne (ap suc same)) d e in omega arith

  -- where the sum isn't 0 some element weighs something
  pub total-some : (l : List A) → 0 < total f l → (i : ℕ) × (a : A) × (get_elem? l i ≡ some a) × (0 < f a)
  total-some [] more = absurd (omega arith)
  total-some (x ∷ xs) more = by_first (λ rest. total-some xs rest) (dec_le 1 (f x))
    where
      by_first : (0 < total f xs → (i : ℕ) × (a : A) × (get_elem? xs i ≡ some a) × (0 < f a)) → Dec (1 ≤ f x)
          → (i : ℕ) × (a : A) × (get_elem? (x ∷ xs) i ≡ some a) × (0 < f a)
      by_first later (yes first) = (zero, x, refl, omega arith)
      by_first later (no nothing) = let rest = later (omega arith) in (suc rest.0, rest.1, rest.2, rest.3)

  pub total-none : (l : List A) → ((i : ℕ) (a : A) → get_elem? l i ≡ some a → f a ≡ 0) → total f l ≡ 0
  total-none [] none = refl
  total-none (x ∷ xs) none =
      let first = none zero x refl in let rest = total-none xs (λ i a e. none (suc i) a e) in omega arith

pub total-below : {A : Type 0} (f g : A → ℕ) (l : List A) → ((i : ℕ) (a : A) → get_elem? l i ≡ some a → f a ≤ g a)
    → total f l ≤ total g l
total-below f g [] below = omega arith
total-below f g (x ∷ xs) below =
    let first = below zero x refl in let rest = total-below f g xs (λ i a e. below (suc i) a e) in omega arith
