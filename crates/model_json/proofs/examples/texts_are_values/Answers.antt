use Rattle.std.proofs.Common.{refl}
use Rattle.serde_json.proofs.OnLiterals.{serde_json_on_literals}
use Rattle.model_json.proofs.examples.texts_are_values.Goals as goal

pub returns-clause-twice : goal.returns-clause-twice
unfolding serde_json_on_literals
returns-clause-twice c = refl

pub returns-clause-escapes : goal.returns-clause-escapes
unfolding serde_json_on_literals
returns-clause-escapes c = refl

pub returns-clause-lone : goal.returns-clause-lone
unfolding serde_json_on_literals
returns-clause-lone c = refl

pub returns-clause-behind : goal.returns-clause-behind
unfolding serde_json_on_literals
returns-clause-behind c = refl

pub returns-clause-mark : goal.returns-clause-mark
unfolding serde_json_on_literals
returns-clause-mark c = refl

pub returns-clause-minus_zero : goal.returns-clause-minus_zero
unfolding serde_json_on_literals
returns-clause-minus_zero c = refl

pub returns-clause-fraction : goal.returns-clause-fraction
unfolding serde_json_on_literals
returns-clause-fraction c = refl
