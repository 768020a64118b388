use Rattle.model_dump.proofs.TextReads.{text-injective}
use Rattle.model_dump.proofs.laws.different_maps_have_different_texts.Goals as goal

pub returns : goal.returns
returns c = text-injective
