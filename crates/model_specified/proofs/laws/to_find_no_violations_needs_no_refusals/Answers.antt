use Rattle.kdb_outside.specs.Faults.{HasRisen}
use Rattle.model_specified.specs.Violations.{checked_keys}
use Rattle.model_specified.proofs.Refusals.{AreOfKeys-none}
use Rattle.model_specified.proofs.laws.to_find_no_violations_needs_no_refusals.Goals as goal

pub returns : goal.returns
returns c = λ before now is_chosen keys. AreOfKeys-none (HasRisen before now) ⊥ (checked_keys is_chosen keys)
