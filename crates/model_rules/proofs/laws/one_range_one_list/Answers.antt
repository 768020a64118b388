use Rattle.model_rules.proofs.RangeOnce.{IsRange-once}
use Rattle.model_rules.proofs.laws.one_range_one_list.Goals as goal

pub returns : goal.returns
returns c = IsRange-once
