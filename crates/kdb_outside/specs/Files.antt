-- What the writing calls of a disk do with its files, each file as its bytes by its name. This project's own.
use Rattle.std.specs.Prelude.{◌≡◌, ◌≢◌, ◌⊎◌, ℕ, ◌+◌, ◌≤◌, List, ◌++◌, length, take, drop, max}

-- the bytes of a file after a write of these bytes at this place
abbrev pub written : List ℕ → ℕ → List ℕ → List ℕ
written before at bytes = take at before ++ bytes ++ drop (at + length bytes) before

-- every other file is as it was
abbrev pub KeepsOthers : List ℕ → (List ℕ → List ℕ) → (List ℕ → List ℕ) → Type 0
KeepsOthers file seen_old seen_new = (other : List ℕ) → other ≢ file → seen_new other ≡ seen_old other

-- the file has become these bytes, and every other file is as it was
pub record ChangesTo (file now : List ℕ) (seen_old seen_new : List ℕ → List ℕ) : Type 0 where
  pub this : seen_new file ≡ now
  pub others : KeepsOthers file seen_old seen_new

-- a write of n bytes at this place may have stopped anywhere: any bytes in its range, any length between, and the rest
-- as it was
pub record IsTorn (before : List ℕ) (at n : ℕ) (now : List ℕ) : Type 0 where
  pub front : take at now ≡ take at before
  pub back : drop (at + n) now ≡ drop (at + n) before
  pub no_shorter : length before ≤ length now
  pub no_longer : length now ≤ max (length before) (at + n)

-- a cut to this length was made or not
abbrev pub IsCutOrNot : List ℕ → ℕ → List ℕ → Type 0
IsCutOrNot before n now = (now ≡ before) ⊎ (now ≡ take n before)
