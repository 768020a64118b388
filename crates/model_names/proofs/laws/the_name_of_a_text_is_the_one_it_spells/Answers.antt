use Rattle.model_names.proofs.NameOfLemmas.{name_of-spelled, Spells-name_of, name_of-refused}
use Rattle.model_names.proofs.laws.the_name_of_a_text_is_the_one_it_spells.Goals as goal

pub returns-clause-spelled : goal.returns-clause-spelled
returns-clause-spelled c = name_of-spelled

pub returns-clause-given : goal.returns-clause-given
returns-clause-given c = Spells-name_of

pub returns-clause-refused : goal.returns-clause-refused
returns-clause-refused c = name_of-refused
