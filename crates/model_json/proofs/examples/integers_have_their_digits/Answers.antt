use Rattle.std.proofs.Common.{refl}
use Rattle.std.specs.Fmt.{digits}
use Rattle.model_json.proofs.examples.integers_have_their_digits.Goals as goal

pub returns-clause-plain : goal.returns-clause-plain
unfolding digits
returns-clause-plain c = refl

pub returns-clause-signed : goal.returns-clause-signed
unfolding digits
returns-clause-signed c = refl
