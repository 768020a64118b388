use Rattle.model_names.proofs.RefusesLemmas.{Spells-from_no_refusal}
use Rattle.model_names.proofs.laws.a_text_without_refusal_spells_a_name.Goals as goal

pub returns : goal.returns
returns c = Spells-from_no_refusal
