use Rattle.model_quoting.proofs.AlikeLemmas.{quoted-once}
use Rattle.model_quoting.proofs.one_quoted_text_one_text.Goals as goal

pub returns : goal.returns
returns c = quoted-once
