use Rattle.model_store.specs.Store.{formats_of}
use Rattle.model_undone.proofs.ParentLemmas.{can_undo}
use Rattle.model_undone.proofs.a_get_shows_what_is_to_be_undone.Goals as goal

pub returns : goal.returns
returns g c =
    λ store procs history handle number points are_proc legal there. can_undo (formats_of g.F.Formats) store procs history handle number points are_proc legal there
