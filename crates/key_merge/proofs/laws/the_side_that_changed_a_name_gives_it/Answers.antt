use Rattle.key_merge.proofs.ChoiceLemmas.{choice_of-alike, choice_of-their, choice_of-our, choice_of-conflict}
use Rattle.key_merge.proofs.laws.the_side_that_changed_a_name_gives_it.Goals as goal

pub returns-clause-alike : goal.returns-clause-alike
returns-clause-alike c = choice_of-alike

pub returns-clause-their : goal.returns-clause-their
returns-clause-their c = choice_of-their

pub returns-clause-our : goal.returns-clause-our
returns-clause-our c = choice_of-our

pub returns-clause-conflict : goal.returns-clause-conflict
returns-clause-conflict c = choice_of-conflict
