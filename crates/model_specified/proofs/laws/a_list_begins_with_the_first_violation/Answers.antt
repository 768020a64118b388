use Rattle.std.proofs.Common.{[], subst, append-nil}
use Rattle.kdb_outside.specs.Faults.{HasRisen}
use Rattle.model_specified.specs.Violations.{BeginWith, checked_keys}
use Rattle.model_specified.proofs.Refusals.{begin-with}
use Rattle.model_specified.proofs.laws.a_list_begins_with_the_first_violation.Goals as goal

pub returns : goal.returns
returns c = λ before now is_chosen keys violation more h.
    subst (λ ks. BeginWith (HasRisen before now) ks violation) (append-nil (checked_keys is_chosen keys)) (begin-with (HasRisen before now) (checked_keys is_chosen keys) [] violation more h)
