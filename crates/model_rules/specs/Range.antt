-- Which texts are ranges, and of which intervals. (This project's own, after Elektra's plugin `range`.)
use Rattle.std.specs.Prelude.{◌≡◌, ℕ, Bool, List, ◌∷◌, ◌++◌, ◌==◌, ℤ, ◌≤ℤ◌}
use Rattle.std.specs.List.{AllZip, Any, slice_split}
use Rattle.model_rules.specs.Number.{IsNumber, IsWithin}
use Rattle.model_rules.specs.declared.intervals.Interval.{Interval}

-- an item of a range: a number, or two with a `-` between them, of which the first is at most the second
pub data IsItem (item : List ℕ) (interval : Interval) : Type 0 where
  Single : IsNumber item interval.low → IsNumber item interval.high → IsItem item interval
  Between : (first last : List ℕ) → item ≡ first ++ (45 ∷ last) → IsNumber first interval.low
      → IsNumber last interval.high → interval.low ≤ℤ interval.high → IsItem item interval

-- a comma
abbrev pub is_comma : ℕ → Bool
is_comma b = b == 44

-- a range: one or more items with commas between them
abbrev pub IsRange : List ℕ → List Interval → Type 0
IsRange text intervals = AllZip IsItem (slice_split is_comma text) intervals

-- a number lies in one of some intervals
abbrev pub LiesIn : List Interval → ℤ → Type 0
LiesIn intervals value = Any (λ interval. IsWithin interval.low interval.high value) intervals
