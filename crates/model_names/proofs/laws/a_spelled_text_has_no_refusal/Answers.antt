use Rattle.model_names.proofs.RefusesLemmas.{refusal_of-spelled}
use Rattle.model_names.proofs.laws.a_spelled_text_has_no_refusal.Goals as goal

pub returns : goal.returns
returns c = refusal_of-spelled
