use Rattle.model_names.proofs.NameLemmas.{spelling_spells}
use Rattle.model_names.proofs.laws.a_canonical_spelling_spells_its_name.Goals as goal

pub returns : goal.returns
returns c = spelling_spells
