-- Counts of faults that rise by more than one. (This project's own.)
use Rattle.std.specs.Prelude.{ℕ, ◌+◌, ◌-◌, ◌^◌, ◌≤◌, ◌⊎◌}
use Rattle.kdb_outside.specs.Faults.{HasRisen}

-- a count stands at the last value of its type, or beyond it, and counts as risen
pub record IsAtTop (before now : ℕ) : Type 0 where
  pub later : before ≤ now
  pub rose : HasRisen before now
  pub top : 2 ^ 64 - 1 ≤ now

-- a count rose by at least so much, or to the last value of its type
abbrev pub HasRisenBy : ℕ → ℕ → ℕ → Type 0
HasRisenBy n before now = (before + n ≤ now) ⊎ IsAtTop before now
