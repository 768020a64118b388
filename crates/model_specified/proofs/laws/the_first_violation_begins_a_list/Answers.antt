use Rattle.kdb_outside.specs.Faults.{HasRisen}
use Rattle.model_specified.specs.Violations.{checked_keys}
use Rattle.model_specified.proofs.Refusals.{begins-list}
use Rattle.model_specified.proofs.laws.the_first_violation_begins_a_list.Goals as goal

pub returns : goal.returns
returns c = λ before now is_chosen keys. begins-list (HasRisen before now) (checked_keys is_chosen keys)
