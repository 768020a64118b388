-- When a call may fail: only where a count of faults rose in it. This project's own.
use Rattle.std.specs.Prelude.{◌≡◌, ℕ, ◌-◌, ◌^◌, ◌<◌, ◌⊎◌, Result, OnErr}
use Rattle.kdb_outside.specs.declared.faults.Failed.{Failed}

-- a count rose; one that stands at the last value of its type counts as risen, since it can't go on
abbrev pub HasRisen : ℕ → ℕ → Type 0
HasRisen before now = (before < now) ⊎ (now ≡ 2 ^ 64 - 1)

-- a call failed only where the count rose in it
abbrev pub HasCause : {X : Type 0} → ℕ → ℕ → Result X Failed → Type 0
HasCause before now result = OnErr result (HasRisen before now)
