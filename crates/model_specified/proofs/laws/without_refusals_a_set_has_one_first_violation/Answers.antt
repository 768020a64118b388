use Rattle.model_specified.proofs.FirstsOnce.{firsts-once}
use Rattle.model_specified.proofs.laws.without_refusals_a_set_has_one_first_violation.Goals as goal

pub returns : goal.returns
returns c = firsts-once
