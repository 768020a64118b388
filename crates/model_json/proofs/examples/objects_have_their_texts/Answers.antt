use Rattle.std.proofs.Common.{refl}
use Rattle.serde_json.proofs.OnLiterals.{serde_json_on_literals}
use Rattle.model_json.proofs.examples.objects_have_their_texts.Goals as goal

pub returns-clause-whole : goal.returns-clause-whole
unfolding serde_json_on_literals
returns-clause-whole c = refl

pub returns-clause-nothing : goal.returns-clause-nothing
unfolding serde_json_on_literals
returns-clause-nothing c = refl
