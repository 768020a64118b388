use Rattle.std.proofs.Common.{refl}
use Rattle.model_rules.specs.Types.{kind_of}
use Rattle.model_rules.proofs.examples.types_have_their_rows.Goals as goal

pub returns-clause-short : goal.returns-clause-short
unfolding kind_of
returns-clause-short c = refl

pub returns-clause-unknown : goal.returns-clause-unknown
unfolding kind_of
returns-clause-unknown c = refl
