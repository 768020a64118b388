use Rattle.model_names.proofs.OrderLemmas.{name_cmp_total}
use Rattle.model_names.proofs.laws.order_is_total.Goals as goal

pub returns : goal.returns
returns c = name_cmp_total
