-- Bytes that have one value in everything that a crash leaves of a file. This project's own.
use Rattle.std.proofs.Common.{◌≡◌, ℕ, zero, suc, ◌+◌, ◌-◌, ◌<◌, ◌≤◌, List, [], ◌∷◌, length, take, drop, Some, slice_get, refl, sym, ap, ◌∙◌, arith}
use Rattle.kdb_outside.specs.Images.{IsTornWrite, IsTornCut, Touches}
use Rattle.kdb_outside.specs.Crashes.{EachOf, HasByte}

-- the front of a list has the same bytes
pub slice_get-take : (xs : List ℕ) (n i : ℕ) → i < n → slice_get (take n xs) i ≡ slice_get xs i
slice_get-take xs zero i h = absurd (omega arith)
slice_get-take [] (suc n) i h = refl
slice_get-take (x ∷ xs) (suc n) zero h = refl
slice_get-take (x ∷ xs) (suc n) (suc i) h = slice_get-take xs n i (omega arith)

-- what is left behind a front has the bytes from there on
pub slice_get-drop : (xs : List ℕ) (n k i : ℕ) → i ≡ n + k → slice_get (drop n xs) k ≡ slice_get xs i
slice_get-drop xs zero k i e = ap (slice_get xs) (omega arith)
slice_get-drop [] (suc n) k i e = refl
slice_get-drop (x ∷ xs) (suc n) k zero e = absurd (omega arith)
slice_get-drop (x ∷ xs) (suc n) k (suc i) e = slice_get-drop xs n k i (omega arith)

-- two contents with one front have the same bytes there
same_before : (now before : List ℕ) (n i : ℕ) → take n now ≡ take n before → i < n
    → slice_get now i ≡ slice_get before i
same_before now before n i front within =
    sym (slice_get-take now n i within) ∙ ap (λ xs. slice_get xs i) front ∙ slice_get-take before n i within

-- two contents with one back have the same bytes there
pub same_behind : (now before : List ℕ) (n i : ℕ) → drop n now ≡ drop n before → n ≤ i
    → slice_get now i ≡ slice_get before i
same_behind now before n i back behind =
    let there : i ≡ n + (i - n) = omega arith in
    sym (slice_get-drop now n (i - n) i there) ∙ ap (λ xs. slice_get xs (i - n)) back
    ∙ slice_get-drop before n (i - n) i there

-- a write reaches no byte before its place
pub HasByte-before_write : (file : List ℕ) (at : ℕ) (bytes : List ℕ) (old new : List ℕ → List ℕ → Type 0)
    (place value : ℕ) → place < at
    → Touches file (IsTornWrite at bytes) old new → EachOf (old file) (HasByte place value)
    → EachOf (new file) (HasByte place value)
HasByte-before_write file at bytes old new place value outside touches each =
    λ c is. let step = touches.this c is in same_before c step.0 at place step.2.front outside ∙ each step.0 step.1

-- a write reaches no byte behind its range
pub HasByte-behind_write : (file : List ℕ) (at : ℕ) (bytes : List ℕ) (old new : List ℕ → List ℕ → Type 0)
    (place value : ℕ) → at + length bytes ≤ place
    → Touches file (IsTornWrite at bytes) old new → EachOf (old file) (HasByte place value)
    → EachOf (new file) (HasByte place value)
HasByte-behind_write file at bytes old new place value outside touches each =
    λ c is. let step = touches.this c is in same_behind c step.0 (at + length bytes) place step.2.back outside ∙ each step.0 step.1

-- a byte that is written over with itself is left as it was
same_within : (at : ℕ) (bytes before now : List ℕ) (i value : ℕ) → IsTornWrite at bytes before now → i < length bytes
    → slice_get bytes i ≡ Some value → slice_get before (at + i) ≡ Some value → slice_get now (at + i) ≡ Some value
same_within at bytes before now i value step within is was = step.same i within (was ∙ sym is) ∙ was

-- a byte that is written again stays
pub HasByte-written_again : (file : List ℕ) (at : ℕ) (bytes : List ℕ) (old new : List ℕ → List ℕ → Type 0) (i value : ℕ)
    → i < length bytes → slice_get bytes i ≡ Some value
    → Touches file (IsTornWrite at bytes) old new → EachOf (old file) (HasByte (at + i) value)
    → EachOf (new file) (HasByte (at + i) value)
HasByte-written_again file at bytes old new i value within is touches each =
    λ c left. let step = touches.this c left in same_within at bytes step.0 c i value step.2 within is (each step.0 step.1)

-- a cut reaches no byte before its length
pub HasByte-before_cut : (file : List ℕ) (new_length : ℕ) (old new : List ℕ → List ℕ → Type 0) (place value : ℕ)
    → place < new_length
    → Touches file (IsTornCut new_length) old new → EachOf (old file) (HasByte place value)
    → EachOf (new file) (HasByte place value)
HasByte-before_cut file new_length old new place value outside touches each =
    λ c is. let step = touches.this c is in same_before c step.0 new_length place step.2.front outside ∙ each step.0 step.1
