use Rattle.model_specified.specs.Violations.{checked_keys}
use Rattle.model_specified.proofs.ViolationsOnce.{AreOfKeys-once}
use Rattle.model_specified.proofs.laws.without_refusals_a_set_has_one_list_of_violations.Goals as goal

pub returns : goal.returns
returns c = λ is_chosen keys a b. AreOfKeys-once (checked_keys is_chosen keys) a b
