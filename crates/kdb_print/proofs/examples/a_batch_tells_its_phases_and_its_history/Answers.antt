-- By computing it.
use Rattle.std.specs.Fmt.{digits}
use Rattle.general_words.proofs.Maps.{entries-empty}
use Rattle.kdb_print.proofs.examples.a_batch_tells_its_phases_and_its_history.Goals as goal

pub returns : goal.returns
unfolding digits
returns c = simp entries-empty
