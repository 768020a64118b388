use Rattle.model_rules.proofs.NumberOnce.{IsNumber-once}
use Rattle.model_rules.proofs.laws.one_text_one_number.Goals as goal

pub returns : goal.returns
returns c = IsNumber-once
