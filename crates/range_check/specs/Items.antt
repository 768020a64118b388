-- An item of a range, by the digits behind its sign.
use Rattle.std.specs.Prelude.{ℕ, Bool, List, ◌≤ℤ◌}
use Rattle.model_rules.specs.Number.{AreDigitsOf, IsNumber}
use Rattle.model_rules.specs.declared.intervals.Interval.{Interval}

-- digits that are a number alone
pub record IsAlone (minus : Bool) (digits : List ℕ) (interval : Interval) : Type 0 where
  pub low : AreDigitsOf minus digits interval.low
  pub high : AreDigitsOf minus digits interval.high

-- digits and a further number, which isn't less
pub record IsBetween (minus : Bool) (digits last : List ℕ) (interval : Interval) : Type 0 where
  pub low : AreDigitsOf minus digits interval.low
  pub high : IsNumber last interval.high
  pub order : interval.low ≤ℤ interval.high
