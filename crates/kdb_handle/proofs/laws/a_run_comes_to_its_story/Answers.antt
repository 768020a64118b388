-- Entry by entry of the story.
use Rattle.kdb_handle.proofs.RunLemmas.{comes-to}
use Rattle.kdb_handle.proofs.laws.a_run_comes_to_its_story.Goals as goal
use Rattle.model_store.specs.Store.{formats_of}

pub returns : goal.returns
returns g c store = comes-to (formats_of g.F.Formats) store
