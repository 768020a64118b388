-- What the turn found is what the undoing means.
use Rattle.std.proofs.Common.{ℕ, subst}
use Rattle.kdb_handle.specs.Undoing.{IsUndone}
use Rattle.model_store.specs.Store.{Formats, formats_of}
use Rattle.batch_run.proofs.UndoTurns.{undo-goes, undo-refused-goes}
use Rattle.batch_run.proofs.turns.undo.Goals as goal

pub returns-in-Ok : goal.returns-in-Ok
returns-in-Ok g c =
    let formats : Formats = formats_of g.F.Formats in
    let store = c.args.store.now in
    let before = c.args.workspace.now in
    let call = c.kdb_undo in
    let done = call.ensures in
    let undone = subst (λ (n : ℕ). IsUndone formats store.plan.mounted c.args.handle.now call.new.self n before.keys call.new.keys call.result) c.get.ensures.number done.undone in
    undo-goes formats store.lock store.plan c.args.number.now before call.new.keys c.args.handle.now call.new.self call.result undone c.requires done.handle done.number done.proc c.in-Ok.done c.in-Ok.is

pub returns-in-Err : goal.returns-in-Err
returns-in-Err g c =
    let formats : Formats = formats_of g.F.Formats in
    let store = c.args.store.now in
    let before = c.args.workspace.now in
    let call = c.kdb_undo in
    let done = call.ensures in
    let undone = subst (λ (n : ℕ). IsUndone formats store.plan.mounted c.args.handle.now call.new.self n before.keys call.new.keys call.result) c.get.ensures.number done.undone in
    undo-refused-goes formats store.lock store.plan c.args.number.now before call.new.keys c.args.handle.now call.new.self call.result undone c.requires done.handle done.number done.proc c.in-Err.why c.in-Err.is
