use Rattle.model_history.proofs.ChangeLemmas.{get-after}
use Rattle.model_history.proofs.laws.changes_of_sorted_names_are_made_each.Goals as goal

pub returns : goal.returns
returns c = get-after
