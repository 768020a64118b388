use Rattle.model_rules.proofs.RulesOnce.{BreaksEnum-once}
use Rattle.model_rules.proofs.laws.a_value_breaks_enum_once.Goals as goal

pub returns : goal.returns
returns c = BreaksEnum-once
