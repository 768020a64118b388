use Rattle.model_store.specs.Store.{formats_of}
use Rattle.model_undone.proofs.InverseSets.{changes-are}
use Rattle.model_undone.proofs.an_undo_changes_the_inverse.Goals as goal

pub returns : goal.returns
returns g c =
    λ store history handle number parent rec keys can. changes-are (formats_of g.F.Formats) store history handle parent rec keys number can
