-- A write and a cut that a crash left whole, or left out: both count among the torn ones. This project's own.
use Rattle.std.proofs.Common.{◌≡◌, ℕ, zero, suc, ◌+◌, ◌<◌, ◌≤◌, max, List, [], ◌∷◌, ◌++◌, length, take, drop, slice_get, refl, sym, ap, ◌∙◌, arith, length-append, length-take, length-drop}
use Rattle.std.proofs.lemmas.List.{take_at, drop_at, take-append-le, take-take}
use Rattle.kdb_outside.specs.Files.{written}
use Rattle.kdb_outside.specs.Images.{IsTornWrite, IsTornCut}

-- the first of two lists
slice_get-append_first : (xs ys : List ℕ) (i : ℕ) → i < length xs → slice_get (xs ++ ys) i ≡ slice_get xs i
slice_get-append_first [] ys i h = absurd (omega arith)
slice_get-append_first (x ∷ xs) ys zero h = refl
slice_get-append_first (x ∷ xs) ys (suc i) h = slice_get-append_first xs ys i (omega arith)

-- the second of two lists
slice_get-append_second : (xs ys : List ℕ) (n i : ℕ) → n ≡ length xs + i → slice_get (xs ++ ys) n ≡ slice_get ys i
slice_get-append_second [] ys n i e = ap (slice_get ys) (omega arith)
slice_get-append_second (x ∷ xs) ys zero i e = absurd (omega arith)
slice_get-append_second (x ∷ xs) ys (suc n) i e = slice_get-append_second xs ys n i (omega arith)

-- the length up to the end of what was written
front_length : (before : List ℕ) (at : ℕ) (bytes : List ℕ) → at ≤ length before
    → length (take at before ++ bytes) ≡ at + length bytes
front_length before at bytes within = omega (arith, length-append (take at before) bytes, length-take at before)

-- the length of a file after a write
pub length-written : (before : List ℕ) (at : ℕ) (bytes : List ℕ) → at ≤ length before
    → length (written before at bytes) ≡ max (length before) (at + length bytes)
length-written before at bytes within =
    omega (arith, length-append (take at before ++ bytes) (drop (at + length bytes) before), front_length before at bytes within, length-drop (at + length bytes) before)

-- what was written stands at its place
pub slice_get-written : (before : List ℕ) (at : ℕ) (bytes : List ℕ) (i : ℕ) → at ≤ length before → i < length bytes
    → slice_get (written before at bytes) (at + i) ≡ slice_get bytes i
slice_get-written before at bytes i within inside =
    slice_get-append_first (take at before ++ bytes) _ (at + i) (omega (arith, front_length before at bytes within))
    ∙ slice_get-append_second (take at before) bytes (at + i) i (omega (arith, length-take at before))

-- the write was left whole
pub IsTornWrite-whole : (before : List ℕ) (at : ℕ) (bytes : List ℕ) → at ≤ length before
    → IsTornWrite at bytes before (written before at bytes)
IsTornWrite-whole before at bytes within =
    record {
      front = take-append-le at (take at before ++ bytes) _ (omega (arith, front_length before at bytes within)) ∙ take_at (take at before) bytes at (omega (arith, length-take at before));
      back = drop_at (take at before ++ bytes) _ (at + length bytes) (front_length before at bytes within);
      no_shorter = omega (arith, length-written before at bytes within);
      no_longer = omega (arith, length-written before at bytes within);
      same = λ i inside was. slice_get-written before at bytes i within inside ∙ sym was;
    }

-- the write was left out
pub IsTornWrite-none : (before : List ℕ) (at : ℕ) (bytes : List ℕ) → IsTornWrite at bytes before before
IsTornWrite-none before at bytes =
    record {
      front = refl;
      back = refl;
      no_shorter = omega arith;
      no_longer = omega arith;
      same = λ i inside was. refl;
    }

-- the cut was left whole
pub IsTornCut-whole : (new_length : ℕ) (before : List ℕ) → IsTornCut new_length before (take new_length before)
IsTornCut-whole new_length before =
    record {
      front = take-take new_length new_length before (omega arith);
      no_shorter = omega (arith, length-take new_length before);
      no_longer = omega (arith, length-take new_length before);
    }

-- the cut was left out
pub IsTornCut-none : (new_length : ℕ) (before : List ℕ) → IsTornCut new_length before before
IsTornCut-none new_length before = record { front = refl; no_shorter = omega arith; no_longer = omega arith }
