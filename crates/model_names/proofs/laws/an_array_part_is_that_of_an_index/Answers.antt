use Rattle.model_names.proofs.ArrayLemmas.{IsArrayPart-index, IsArrayPart-array_part}
use Rattle.model_names.proofs.laws.an_array_part_is_that_of_an_index.Goals as goal

pub returns-clause-index : goal.returns-clause-index
returns-clause-index c = IsArrayPart-index

pub returns-clause-part : goal.returns-clause-part
returns-clause-part c = IsArrayPart-array_part
