-- By computing it.
use Rattle.std.specs.Fmt.{digits}
use Rattle.std.proofs.Common.{refl}
use Rattle.kdb_gen.proofs.examples.a_script_of_one_round.Goals as goal

pub returns : goal.returns
unfolding digits
returns c = refl
