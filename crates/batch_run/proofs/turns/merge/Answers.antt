-- The tries of the handle are those of the session.
use Rattle.std.proofs.Common.{ℕ, subst}
use Rattle.kdb_handle.specs.Merging.{IsMergedSet, end_of, tried_in}
use Rattle.model_store.specs.Store.{Formats, formats_of}
use Rattle.batch_run.proofs.MergeTurns.{merged-goes, unmerged-goes}
use Rattle.batch_run.proofs.turns.merge.Goals as goal

pub returns-in-Ok : goal.returns-in-Ok
returns-in-Ok g c =
    let formats : Formats = formats_of g.F.Formats in
    let store = c.args.store.now in
    let call = c.kdb_set_merged in
    let done = call.ensures in
    let merged = subst (λ (n : ℕ). IsMergedSet formats store.plan.mounted c.args.parent.now c.args.strategy n c.args.handle.now c.args.workspace.now.keys call.new.self call.new.keys (tried_in call.result) (end_of call.result)) c.get.ensures.count done.merged in
    merged-goes formats store.lock store.plan c.args.parent.now c.args.strategy c.args.tries.now c.args.handle.now call.new.self c.args.workspace.now c.requires done.handle done.number done.proc call.new.keys call.result c.in-Ok.merging c.in-Ok.is merged

pub returns-in-Err : goal.returns-in-Err
returns-in-Err g c =
    let formats : Formats = formats_of g.F.Formats in
    let store = c.args.store.now in
    let call = c.kdb_set_merged in
    let done = call.ensures in
    let merged = subst (λ (n : ℕ). IsMergedSet formats store.plan.mounted c.args.parent.now c.args.strategy n c.args.handle.now c.args.workspace.now.keys call.new.self call.new.keys (tried_in call.result) (end_of call.result)) c.get.ensures.count done.merged in
    unmerged-goes formats store.lock store.plan c.args.parent.now c.args.strategy c.args.tries.now c.args.handle.now call.new.self c.args.workspace.now c.requires done.handle done.number done.proc call.new.keys call.result c.in-Err.fault c.in-Err.is merged
