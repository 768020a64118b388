use Rattle.model_names.proofs.NameLemmas.{one_spelling}
use Rattle.model_names.proofs.laws.one_spelling_one_name.Goals as goal

pub returns : goal.returns
returns c = one_spelling
