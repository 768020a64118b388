-- What is made of a set is what a commit of it needs.
use Rattle.model_store.specs.Store.{formats_of}
use Rattle.store_core.proofs.MadeLemmas.{belongs_made}
use Rattle.store_core.proofs.laws.a_prepared_set_may_be_committed.Goals as goal

pub returns : goal.returns
returns g c store records sets world p handle before parent keys stands record_is places set_is accepted made =
    belongs_made (formats_of g.F.Formats) store c.args.core.now records sets world p c.args.rec.now c.args.prepared.now handle before parent keys
    stands record_is places set_is accepted made
