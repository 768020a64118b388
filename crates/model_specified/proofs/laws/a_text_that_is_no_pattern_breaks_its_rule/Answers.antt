use Rattle.kdb_outside.specs.Faults.{HasRisen}
use Rattle.model_specified.proofs.Refusals.{no_pattern-breaks}
use Rattle.model_specified.proofs.laws.a_text_that_is_no_pattern_breaks_its_rule.Goals as goal

pub returns : goal.returns
returns c = λ before now. no_pattern-breaks (HasRisen before now)
