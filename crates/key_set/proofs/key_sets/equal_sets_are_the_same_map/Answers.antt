use Rattle.key_set.proofs.SameLemmas.{keys_decides}
use Rattle.key_set.proofs.key_sets.equal_sets_are_the_same_map.Goals as goal

pub returns : goal.returns
returns c = keys_decides
