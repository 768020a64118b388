use Rattle.model_store.specs.Store.{formats_of}
use Rattle.model_store.proofs.Others.{others-block}
use Rattle.model_store.proofs.only_others_block.Goals as goal

pub returns : goal.returns
returns g c = λ store. others-block (formats_of g.F.Formats) store
