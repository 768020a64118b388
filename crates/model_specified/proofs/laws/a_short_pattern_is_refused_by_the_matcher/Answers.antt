use Rattle.kdb_outside.specs.Faults.{HasRisen}
use Rattle.model_specified.specs.Violations.{checked_keys}
use Rattle.model_specified.proofs.Refusals.{first-caused}
use Rattle.model_specified.proofs.laws.a_short_pattern_is_refused_by_the_matcher.Goals as goal

pub returns : goal.returns
returns c =
    λ before now is_chosen keys violation. first-caused (HasRisen before now) (checked_keys is_chosen keys) violation
