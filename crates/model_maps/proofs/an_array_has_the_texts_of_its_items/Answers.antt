use Rattle.model_maps.proofs.ArrayLemmas.{array_texts-items}
use Rattle.model_maps.proofs.an_array_has_the_texts_of_its_items.Goals as goal

pub returns : goal.returns
returns c = array_texts-items
