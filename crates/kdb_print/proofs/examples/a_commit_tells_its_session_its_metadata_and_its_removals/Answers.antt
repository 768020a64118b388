-- By computing it.
use Rattle.std.specs.Prelude.{ℕ, List}
use Rattle.std.specs.Fmt.{digits}
use Rattle.general_words.proofs.Maps.{entries-empty}
use Rattle.general_words.proofs.Texts.{text_cmp-total}
use Rattle.std.specs.FinMap.{entries-insert}
use Rattle.kdb_print.proofs.examples.a_commit_tells_its_session_its_metadata_and_its_removals.Goals as goal

pub returns : goal.returns
unfolding digits
returns c = simp (entries-insert {X = List ℕ} text_cmp-total, entries-empty)
