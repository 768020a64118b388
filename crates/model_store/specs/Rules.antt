-- Which maps keep the check rules in some mounts. (After Elektra's plugins `type`, `range` and `validation`; that a
-- mount is checked only where a set touches it is this project's own.)
use Rattle.std.specs.Prelude.{ℕ, ◌-◌, ◌^◌, nat_lt, nat_eq, Bool, T, ◌||◌, List, [], Some}
use Rattle.model_names.specs.Name.{Name}
use Rattle.model_maps.specs.KeyMap.{KeyMap}
use Rattle.model_specified.specs.Violations.{AreViolations, IsFirstViolation, is_owned}
use Rattle.model_specified.specs.declared.violations.Violation.{Violation}

-- the keys that some mounts own break no rule, as the specifications in the map have them. To find none nothing has to
-- be refused
abbrev pub KeepRules : List Name → List ℕ → KeyMap → Type 0
KeepRules points mounts keys = AreViolations ⊥ (is_owned points mounts) keys []

-- they break one, and this is the first violation. Only where the matcher's count of refusals rose it may have refused
-- a pattern of the grammar
abbrev pub FirstBreach : List Name → List ℕ → KeyMap → Violation → Bool → Type 0
FirstBreach points mounts keys violation risen =
    IsFirstViolation (T risen) (is_owned points mounts) keys (Some violation)

-- whether a count rose: the test of `HasRisen`
abbrev pub has_risen : ℕ → ℕ → Bool
has_risen before now = nat_lt before now || nat_eq now (2 ^ 64 - 1)
