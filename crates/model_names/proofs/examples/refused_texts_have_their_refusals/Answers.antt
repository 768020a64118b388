use Rattle.std.specs.Fmt.{digits}
use Rattle.std.proofs.Common.{refl}
use Rattle.model_names.proofs.examples.refused_texts_have_their_refusals.Goals as goal

pub returns-clause-underscore : goal.returns-clause-underscore
unfolding digits
returns-clause-underscore c = refl

pub returns-clause-zero : goal.returns-clause-zero
unfolding digits
returns-clause-zero c = refl

pub returns-clause-name : goal.returns-clause-name
unfolding digits
returns-clause-name c = refl
