use Rattle.model_rules.proofs.RulesOnce.{BreaksType-once}
use Rattle.model_rules.proofs.laws.a_value_breaks_type_once.Goals as goal

pub returns : goal.returns
returns c = BreaksType-once
