-- By computing it.
use Rattle.std.proofs.Common.{refl}
use Rattle.std.specs.Fmt.{digits}
use Rattle.kdb_print.proofs.examples.an_undo_tells_its_commit_or_why_there_is_none.Goals as goal

pub returns : goal.returns
unfolding digits
returns c = refl
