use Rattle.model_names.proofs.NameLemmas.{slash_is_cascading, cascading_begins}
use Rattle.model_names.proofs.laws.a_slash_in_front_means_cascading.Goals as goal

pub returns-clause-texts : goal.returns-clause-texts
returns-clause-texts c = slash_is_cascading

pub returns-clause-spellings : goal.returns-clause-spellings
returns-clause-spellings c = cascading_begins
