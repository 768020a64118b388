-- The core stands for the story that it stood for.
use Rattle.kdb_handle.proofs.SharedLemmas.{shared_flushed, shared_same}
use Rattle.model_store.specs.Store.{formats_of}
use Rattle.std.proofs.Common.{[], refl}
use Rattle.kdb_handle.proofs.shared.Shared.flush.Goals as goal

pub returns-clause-shared : goal.returns-clause-shared
returns-clause-shared g c log shared =
    let old = c.args.self.now in
    let next = c.flush.new.self in
    shared_same (formats_of g.F.Formats) g.D.Disk g.row.D.coded g.P.Patterns.refusals next next old.entries old.entries log [] refl refl refl
    (shared_flushed (formats_of g.F.Formats) g.D.Disk g.row.D.coded g.P.Patterns.refusals old.core next c.flush.result old.entries log c.flush.ensures shared)
