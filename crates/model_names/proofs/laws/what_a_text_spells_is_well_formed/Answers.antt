use Rattle.model_names.proofs.NameLemmas.{spelled_is_name}
use Rattle.model_names.proofs.laws.what_a_text_spells_is_well_formed.Goals as goal

pub returns : goal.returns
returns c = spelled_is_name
