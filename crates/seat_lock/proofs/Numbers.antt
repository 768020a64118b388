-- The numbers with which a lock begins.
use Rattle.std.proofs.Common.{◌≡◌, ◌≢◌, ℕ, zero, suc, ◌+◌, ◌<◌, ◌≤◌, ◌==◌, length, refl, ap, eq-eqb, ne_eqb, arith}
use native.Mathlib.Decide.{ℕ_discrete}
use mathlib.Core.Logic.{dite}
use Rattle.seat_lock.specs.Views.{numbers_from}
use Rattle.seat_lock.specs.Rule.{one_if, times}

one-no : (m n : ℕ) → m ≢ n → one_if (m == n) ≡ 0
one-no m n apart = ap one_if (ne_eqb m n apart)

module _ (E : Type 0) where
  pub length-numbers : (low count : ℕ) → length (numbers_from {E = E} low count) ≡ count
  length-numbers low zero = refl
  length-numbers low (suc count) = ap suc (length-numbers (suc low) count)

  pub times-below : (number low count : ℕ) → number ≤ low → times number (numbers_from {E = E} low count) ≡ 0
  times-below number low zero le = refl
  times-below number low (suc count) le =
      let first = one-no (suc low) number (λ same. omega arith) in let rest = times-below number (suc low) count (omega arith) in omega arith

  pub times-above : (number low count : ℕ) → low + count < number → times number (numbers_from {E = E} low count) ≡ 0
  times-above number low zero lt = refl
  times-above number low (suc count) lt =
      let first = one-no (suc low) number (λ same. omega arith) in let rest = times-above number (suc low) count (omega arith) in omega arith

  pub times-single : (number low count : ℕ) → times number (numbers_from {E = E} low count) ≤ 1
  times-single number low zero = omega arith
  times-single number low (suc count) =
      dite (ℕ_discrete (suc low) number)
      (λ same. let first : one_if (suc low == number) ≡ 1 = ap one_if (eq-eqb (suc low) number same) in let rest = times-below number (suc low) count (omega arith) in omega arith)
      (λ other. let first : one_if (suc low == number) ≡ 0 = ap one_if (ne_eqb (suc low) number other) in let rest = times-single number (suc low) count in omega arith)
