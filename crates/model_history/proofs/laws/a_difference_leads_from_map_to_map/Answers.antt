use Rattle.model_history.proofs.ChangeLemmas.{after-difference}
use Rattle.model_history.proofs.laws.a_difference_leads_from_map_to_map.Goals as goal

pub returns : goal.returns
returns c = after-difference
