-- By computing it.
use Rattle.std.proofs.Common.{refl}
use Rattle.std.specs.Fmt.{digits}
use Rattle.kdb_print.proofs.examples.a_poll_tells_the_last_changes_and_how_many_it_left_out.Goals as goal

pub returns : goal.returns
unfolding digits
returns c = refl
