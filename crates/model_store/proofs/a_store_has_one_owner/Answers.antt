use Rattle.model_store.specs.Store.{formats_of}
use Rattle.model_store.proofs.Owning.{one_owner}
use Rattle.model_store.proofs.a_store_has_one_owner.Goals as goal

pub returns : goal.returns
returns g c = λ store. one_owner (formats_of g.F.Formats) store
