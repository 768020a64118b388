use Rattle.model_store.proofs.Risen.{has_risen-Decides}
use Rattle.model_store.proofs.the_test_of_a_count_decides.Goals as goal

pub returns : goal.returns
returns c = has_risen-Decides
