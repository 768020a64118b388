-- How many comparisons a bound on their power of two allows.
use Rattle.std.proofs.Common.{ℕ, ◌≤◌, ◌^◌, ◌+◌, ◌*◌, inl, inr, arith}
use Rattle.std.proofs.Math.Nat.{pow-le-pow_right}
use Rattle.std.proofs.lemmas.Bool.{cases_lt}

pub many_steps : (steps keys : ℕ) → keys ≤ 10000 → 2 ^ steps ≤ 128 * (2 * keys + 1) → steps ≤ 21
many_steps steps keys few cost = elim (cases_lt steps 22) [
  | inl lt ↦ omega (arith, lt)
  | inr ge ↦ let more : 4194304 ≤ 2 ^ steps = pow-le-pow_right {n = 2} (omega arith) ge in absurd (omega (arith, more, cost, few))
]

pub no_steps : (steps : ℕ) → 2 ^ steps ≤ 128 * (2 * 0 + 1) → steps ≤ 7
no_steps steps cost = elim (cases_lt steps 8) [
  | inl lt ↦ omega (arith, lt)
  | inr ge ↦ let more : 256 ≤ 2 ^ steps = pow-le-pow_right {n = 2} (omega arith) ge in absurd (omega (arith, more, cost))
]
