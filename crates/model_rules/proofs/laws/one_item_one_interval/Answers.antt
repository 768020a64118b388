use Rattle.model_rules.proofs.RangeOnce.{IsItem-once}
use Rattle.model_rules.proofs.laws.one_item_one_interval.Goals as goal

pub returns : goal.returns
returns c = IsItem-once
