use Rattle.std.proofs.Common.{Some, None}
use Rattle.kdb_outside.specs.Faults.{HasRisen}
use Rattle.model_specified.specs.Violations.{checked_keys}
use Rattle.model_specified.proofs.Refusals.{first_or_none}
use Rattle.model_specified.proofs.laws.a_set_has_a_first_violation_or_none.Goals as goal

pub returns : goal.returns
returns c =
    λ before now is_chosen keys risen off. first_or_none (HasRisen before now) risen (checked_keys is_chosen keys) (λ violation. off (Some violation)) (off None)
