use Rattle.model_names.proofs.BelowLemmas.{is_at_or_below-Decides}
use Rattle.model_names.proofs.laws.the_test_of_names_at_or_below_decides.Goals as goal

pub returns : goal.returns
returns c = is_at_or_below-Decides
