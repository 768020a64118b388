use Rattle.model_names.proofs.SpellsLemmas.{Spells-once}
use Rattle.model_names.proofs.laws.one_text_spells_one_name.Goals as goal

pub returns : goal.returns
returns c = Spells-once
