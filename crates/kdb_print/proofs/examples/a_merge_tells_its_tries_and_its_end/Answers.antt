-- By computing it.
use Rattle.std.proofs.Common.{refl}
use Rattle.std.specs.Fmt.{digits}
use Rattle.kdb_print.proofs.examples.a_merge_tells_its_tries_and_its_end.Goals as goal

pub returns : goal.returns
unfolding digits
returns c = refl
