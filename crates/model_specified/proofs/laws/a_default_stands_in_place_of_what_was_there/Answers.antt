use Rattle.model_specified.proofs.DefaultLemmas.{get-with_defaults}
use Rattle.model_specified.proofs.laws.a_default_stands_in_place_of_what_was_there.Goals as goal

pub returns : goal.returns
returns c = get-with_defaults
