use Rattle.key_set.proofs.WithAllLemmas.{get-with_all}
use Rattle.key_set.proofs.key_sets.the_keys_set_last_are_found.Goals as goal

pub returns : goal.returns
returns c = get-with_all
