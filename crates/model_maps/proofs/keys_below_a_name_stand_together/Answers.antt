use Rattle.model_maps.proofs.TogetherLemmas.{stand_together}
use Rattle.model_maps.proofs.keys_below_a_name_stand_together.Goals as goal

pub returns : goal.returns
returns c = stand_together
