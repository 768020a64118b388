-- By the commits behind the front, one after the other.
use Rattle.model_store.proofs.ByName.{as_seen}
use Rattle.model_store.proofs.a_name_that_nobody_else_changed_is_as_seen.Goals as goal

pub returns : goal.returns
returns c = as_seen
