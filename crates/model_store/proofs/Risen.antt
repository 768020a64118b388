-- The test of a count that rose, and what is found under it.
use Rattle.std.proofs.Common.{◌≡◌, ℕ, ◌-◌, ◌^◌, Bool, true, false, T, ◌||◌, nat_lt, nat_eq, Some, inl, inr, refl, ap, eqb-true, eq-eqb, ltb-true, lt-ltb}
use Rattle.std.specs.Bool.{Decides}
use Rattle.general_words.proofs.Tests.{true_is}
use Rattle.kdb_outside.specs.Faults.{HasRisen}
use Rattle.model_maps.specs.KeyMap.{KeyMap}
use Rattle.model_names.specs.Name.{Name}
use Rattle.model_specified.specs.Violations.{IsFirstViolation, checked_keys}
use Rattle.model_specified.specs.declared.violations.Violation.{Violation}
use Rattle.model_specified.proofs.Refusals.{first-as}
use Rattle.model_store.specs.Rules.{has_risen}

pub has_risen-Decides : (before now : ℕ) → Decides (has_risen before now) (HasRisen before now)
has_risen-Decides before now = (there (nat_lt before now) refl, back)
  where
    there : (b : Bool) → nat_lt before now ≡ b → (b || nat_eq now (2 ^ 64 - 1)) ≡ true → HasRisen before now
    there true is e = inl (ltb-true before now is)
    there false is e = inr (eqb-true now (2 ^ 64 - 1) e)

    at_top : (b : Bool) → nat_eq now (2 ^ 64 - 1) ≡ true → (b || nat_eq now (2 ^ 64 - 1)) ≡ true
    at_top true e = refl
    at_top false e = e

    back : HasRisen before now → has_risen before now ≡ true
    back (inl lt) = ap (λ b. b || nat_eq now (2 ^ 64 - 1)) (lt-ltb before now lt)
    back (inr top) = at_top (nat_lt before now) (eq-eqb now (2 ^ 64 - 1) top)

-- a first violation by a count that rose is one by the test of it
pub first-tested : (before now : ℕ) (is_chosen : Name → Bool) (keys : KeyMap) (violation : Violation)
    → IsFirstViolation (HasRisen before now) is_chosen keys (Some violation)
    → IsFirstViolation (T (has_risen before now)) is_chosen keys (Some violation)
first-tested before now is_chosen keys violation first =
    first-as (HasRisen before now) (T (has_risen before now)) (checked_keys is_chosen keys) violation (λ six short risen. true_is _ ((has_risen-Decides before now).1 risen)) first
