use Rattle.model_specified.proofs.SpecifiedLemmas.{get-specified}
use Rattle.model_specified.proofs.laws.each_key_is_specified_by_itself.Goals as goal

pub returns : goal.returns
returns c = get-specified
