use Rattle.model_names.proofs.OrderLemmas.{name_cmp-IsAntisymmetric}
use Rattle.model_names.proofs.laws.one_name_ties_with_itself_alone.Goals as goal

pub returns : goal.returns
returns c = name_cmp-IsAntisymmetric
