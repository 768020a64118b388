-- What the turn found is what the set means.
use Rattle.model_store.specs.Store.{Formats, formats_of}
use Rattle.batch_run.proofs.SetTurns.{set-goes, unset-goes}
use Rattle.batch_run.proofs.turns.set.Goals as goal

pub returns-in-Ok : goal.returns-in-Ok
returns-in-Ok g c =
    let formats : Formats = formats_of g.F.Formats in
    let store = c.args.store.now in
    let done = c.kdb_set.ensures in
    set-goes formats store.lock store.plan c.args.parent.now c.args.workspace.now c.args.handle.now c.kdb_set.new.self c.requires done.handle done.number done.proc c.kdb_set.result c.in-Ok.done c.in-Ok.is done.set

pub returns-in-Err : goal.returns-in-Err
returns-in-Err g c =
    let formats : Formats = formats_of g.F.Formats in
    let store = c.args.store.now in
    let done = c.kdb_set.ensures in
    unset-goes formats store.lock store.plan c.args.parent.now c.args.workspace.now c.args.handle.now c.kdb_set.new.self c.requires done.handle done.number done.proc c.kdb_set.result c.in-Err.why c.in-Err.is done.set
