-- Numbers that ascend.
use Rattle.std.specs.Prelude.{ℕ, ◌+◌, ◌≤◌, List, [], ◌∷◌, map}
use Rattle.std.specs.List.{AllByRecursion}
use Rattle.batch_script.specs.declared.steps.Steps.{Steps}
use Rattle.batch_script.specs.Rows.{most_sessions}

-- they rise, from at least the first one on
abbrev pub IsRising : ℕ → List ℕ → Type 0
IsRising least [] = Unit {0}
IsRising least (n ∷ ns) = (least ≤ n) × IsRising (n + 1) ns

-- the sessions of a phase ascend from 1 on, up to the last that a script may have
pub record AreAscending (sessions : List Steps) : Type 0 where
  pub rising : IsRising 1 (map (λ (steps : Steps). steps.session) sessions)
  pub most : AllByRecursion (λ (steps : Steps). steps.session ≤ most_sessions) sessions
