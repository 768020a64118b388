use Rattle.model_rules.proofs.RulesOnce.{BreaksRange-once}
use Rattle.model_rules.proofs.laws.a_value_breaks_range_once.Goals as goal

pub returns : goal.returns
returns c = BreaksRange-once
