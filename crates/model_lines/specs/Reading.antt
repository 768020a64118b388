-- What lines lead to, and the first line without a reading. A format says by a relation Step what one line makes of
-- what the lines before it made. (This project's own.)
use Rattle.std.specs.Prelude.{◌≡◌, ℕ, ◌+◌, List, [], ◌∷◌, ◌++◌, length}

-- lines that have a reading one after the other lead from what was read before them to what was read behind them
abbrev pub Leads : {S : Type 0} → (S → List ℕ → S → Type 0) → S → List (List ℕ) → S → Type 0
Leads Step before [] after = before ≡ after
Leads {S} Step before (line ∷ rest) after = (middle : S) × Step before line middle × Leads Step middle rest after

-- a line has no reading behind those before it, which have one; its number counts from 1
pub record StopsAt {S : Type 0} (Step : S → List ℕ → S → Type 0) (start : S) (all : List (List ℕ)) (number : ℕ) : Type 0 where
  pub front : List (List ℕ)
  pub progress : S
  pub line : List ℕ
  pub behind : List (List ℕ)
  pub whole : all ≡ front ++ line ∷ behind
  pub leads : Leads Step start front progress
  pub has_none : (after : S) → Step progress line after → ⊥
  pub number_is : number ≡ length front + 1
