-- By computing them.
use Rattle.std.specs.Fmt.{digits}
use Rattle.std.proofs.Common.{refl}
use Rattle.kdb_gen.proofs.examples.summaries_of_some_rounds.Goals as goal

pub returns-clause-seven : goal.returns-clause-seven
unfolding digits
returns-clause-seven c = refl

pub returns-clause-more : goal.returns-clause-more
unfolding digits
returns-clause-more c = refl

pub returns-clause-thousand : goal.returns-clause-thousand
unfolding digits
returns-clause-thousand c = refl
