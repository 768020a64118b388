-- Places of a list: what stands at one, with one more element behind, or with one place changed.
use Rattle.std.proofs.Common.{◌≡◌, ◌≢◌, ◌⊎◌, inl, inr, ℕ, zero, suc, ◌<◌, ◌≤◌, List, [], ◌∷◌, ◌++◌, length, slice_get, Some, refl, ap, arith}
use Rattle.std.proofs.Math.ListN.{set}
use Rattle.general_words.proofs.Lists.{some_is}

-- a place within a list has something
pub there_is : {A : Type 0} (xs : List A) (i : ℕ) → i < length xs → (x : A) × (slice_get xs i ≡ Some x)
there_is [] i lt = absurd (omega arith)
there_is (x ∷ xs) zero lt = (x, refl)
there_is (x ∷ xs) (suc i) lt = there_is xs i (omega arith)

-- ---- one more element

pub before-last : {A : Type 0} (xs : List A) (x y : A) (i : ℕ) → slice_get (xs ++ x ∷ []) i ≡ Some y → i < length xs
    → slice_get xs i ≡ Some y
before-last [] x y i there lt = absurd (omega arith)
before-last (z ∷ zs) x y zero there lt = there
before-last (z ∷ zs) x y (suc i) there lt = before-last zs x y i there (omega arith)

pub at-last : {A : Type 0} (xs : List A) (x y : A) (i : ℕ) → slice_get (xs ++ x ∷ []) i ≡ Some y → length xs ≤ i
    → (i ≡ length xs) × (x ≡ y)
at-last [] x y zero there le = (refl, some_is x y there)
at-last [] x y (suc i) there le = absurd cc
at-last (z ∷ zs) x y zero there le = absurd (omega arith)
at-last (z ∷ zs) x y (suc i) there le =
    let rest = at-last zs x y i there (omega arith) in (omega (arith, rest.0), rest.1)

-- an element of a longer list stands in the list, or is the last
pub last_or_before : {A : Type 0} (xs : List A) (x y : A) (i : ℕ) → slice_get (xs ++ x ∷ []) i ≡ Some y
    → (slice_get xs i ≡ Some y) ⊎ ((i ≡ length xs) × (x ≡ y))
last_or_before [] x y zero e = inr (refl, some_is x y e)
last_or_before [] x y (suc i) e = absurd cc
last_or_before (z ∷ xs) x y zero e = inl e
last_or_before (z ∷ xs) x y (suc i) e =
    elim (last_or_before xs x y i e) [ inl h ↦ inl h | inr h ↦ inr (ap suc h.0, h.1) ]

-- ---- one place changed

pub set-same : {A : Type 0} (xs : List A) (i : ℕ) (x : A) → i < length xs → slice_get (set xs i x) i ≡ Some x
set-same [] i x lt = absurd (omega arith)
set-same (y ∷ xs) zero x lt = refl
set-same (y ∷ xs) (suc i) x lt = set-same xs i x (omega arith)

pub set-other : {A : Type 0} (xs : List A) (i m : ℕ) (x : A) → m ≢ i → slice_get (set xs i x) m ≡ slice_get xs m
set-other [] i m x ne = refl
set-other (y ∷ xs) zero zero x ne = absurd (ne refl)
set-other (y ∷ xs) zero (suc m) x ne = refl
set-other (y ∷ xs) (suc i) zero x ne = refl
set-other (y ∷ xs) (suc i) (suc m) x ne = set-other xs i m x (λ e. ne (ap suc e))
