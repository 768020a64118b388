-- Who sees more made nothing by it.
use Rattle.std.proofs.Common.{rules}
use Rattle.kdb_handle.proofs.HandleLemmas.{handle_met}
use Rattle.kdb_handle.proofs.handles.Handle.meet.Goals as goal

pub returns-clause-handle : goal.returns-clause-handle
returns-clause-handle g c =
    handle_met c.args.store.now.lock c.args.store.now.plan c.args.self.now _ c.requires.0 (search rules) (search rules) (search rules) (search rules) (search rules) (search rules)
