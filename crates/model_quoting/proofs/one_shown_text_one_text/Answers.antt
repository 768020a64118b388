use Rattle.model_quoting.proofs.AlikeLemmas.{shown_text-once}
use Rattle.model_quoting.proofs.one_shown_text_one_text.Goals as goal

pub returns : goal.returns
returns c = shown_text-once
