use Rattle.model_maps.proofs.MapLemmas.{weight-insert, weight-no_keys}
use Rattle.model_maps.proofs.a_new_key_adds_its_weight.Goals as goal

pub returns-clause-empty : goal.returns-clause-empty
returns-clause-empty c = weight-no_keys

pub returns-clause-added : goal.returns-clause-added
returns-clause-added c = weight-insert
