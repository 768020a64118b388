use Rattle.std.proofs.Common.{arith}
use Rattle.general_words.proofs.laws.a_saturated_number_fits.Goals as goal

pub returns-clause-fits : goal.returns-clause-fits
returns-clause-fits c = λ n. omega arith

pub returns-clause-same : goal.returns-clause-same
returns-clause-same c = λ n lt. omega arith
