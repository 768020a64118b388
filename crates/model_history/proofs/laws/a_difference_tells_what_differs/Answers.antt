use Rattle.model_history.proofs.ChangeLemmas.{get-difference, change_at-same, change_at-none, change_at-to}
use Rattle.model_history.proofs.laws.a_difference_tells_what_differs.Goals as goal

pub returns-clause-at : goal.returns-clause-at
returns-clause-at c = get-difference

pub returns-clause-same : goal.returns-clause-same
returns-clause-same c = change_at-same

pub returns-clause-none : goal.returns-clause-none
returns-clause-none c = change_at-none

pub returns-clause-to : goal.returns-clause-to
returns-clause-to c = change_at-to
