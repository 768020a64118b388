-- Calls that are counted from 1, of which the listed ones fail. This project's own.
use Rattle.std.specs.Prelude.{ℕ, ◌+◌, ◌-◌, ◌^◌, min, List, Contains}

-- the next value of a count that stands still at the end of its type
abbrev pub next_count : ℕ → ℕ
next_count n = min (n + 1) (2 ^ 64 - 1)

-- the numbers of the calls that fail, how many calls there were, and how many failed
pub record Calls : Type 0 where
  pub failing : List ℕ
  pub made : ℕ
  pub faults : ℕ

-- no call was made yet, and these will fail
abbrev pub no_calls : List ℕ → Calls
no_calls failing = record { failing = failing; made = 0; faults = 0 }

-- the call that comes next is one of those that fail
abbrev pub IsNextListed : Calls → Type 0
IsNextListed calls = Contains calls.failing (next_count calls.made)

-- one more call was made
abbrev pub after_call : Calls → Calls
after_call calls = record calls { made = next_count calls.made }

-- one more call was made, and failed
abbrev pub after_fault : Calls → Calls
after_fault calls = record calls { made = next_count calls.made; faults = next_count calls.faults }
