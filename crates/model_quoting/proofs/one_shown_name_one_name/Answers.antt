use Rattle.model_quoting.proofs.AlikeLemmas.{shown-once}
use Rattle.model_quoting.proofs.one_shown_name_one_name.Goals as goal

pub returns : goal.returns
returns c = shown-once
