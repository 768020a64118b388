-- Numbers as a `u64` holds them.
use Rattle.std.specs.Prelude.{ℕ, ◌-◌, ◌^◌, min}

-- a number as it is told: beyond the type's end it is the last value
abbrev pub saturated : ℕ → ℕ
saturated n = min n (2 ^ 64 - 1)
