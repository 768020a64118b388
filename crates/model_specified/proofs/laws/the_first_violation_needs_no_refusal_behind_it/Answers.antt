use Rattle.std.proofs.Common.{◌≡◌, ◌≤◌, length}
use Rattle.kdb_outside.specs.Faults.{HasRisen}
use Rattle.model_rules.specs.Rules.{longest_pattern}
use Rattle.model_specified.specs.Violations.{checked_keys}
use Rattle.model_specified.proofs.Refusals.{first-as}
use Rattle.model_specified.proofs.laws.the_first_violation_needs_no_refusal_behind_it.Goals as goal

pub returns : goal.returns
returns c =
    λ before now is_chosen keys violation. first-as (HasRisen before now) ((violation.rule ≡ 6) × (length violation.given ≤ longest_pattern) × HasRisen before now) (checked_keys is_chosen keys) violation (λ six short risen. (six, short, risen))
