-- What the turn found is what the get means.
use Rattle.std.proofs.Common.{ℕ, [], ◌∷◌, refl, sym, subst}
use Rattle.batch_script.specs.declared.steps.Step.TheVariants as step
use Rattle.kdb_handle.specs.declared.replies.Reply.TheVariants as reply
use Rattle.model_store.specs.Store.{Formats, formats_of}
use Rattle.batch_run.specs.Stepping.{GoesOn}
use Rattle.batch_run.proofs.GetTurns.{get-goes, unget-goes}
use Rattle.store_verdict.specs.RecordView.{proc_of}
use Rattle.batch_run.proofs.turns.get.Goals as goal

pub returns-in-Ok : goal.returns-in-Ok
returns-in-Ok g c =
    let formats : Formats = formats_of g.F.Formats in
    let store = c.args.store.now in
    let old = c.args.handle.now in
    let before = c.args.workspace.now in
    let new = c.kdb_get.new.self in
    let done = c.kdb_get.ensures in
    subst (λ (count : ℕ). GoesOn formats store.lock store.plan (step.Get c.args.parent.now ∷ []) (reply.Got c.in-Ok.got.front count ∷ []) old before new (record before { keys = c.in-Ok.got.keys })) (sym c.len-count.ensures)
    (get-goes formats store.lock store.plan c.args.parent.now old new before c.requires done.handle done.number done.proc done.seen done.own c.kdb_get.result c.in-Ok.got c.in-Ok.is (done.got (λ r. proc_of old.rec) refl))

pub returns-in-Err : goal.returns-in-Err
returns-in-Err g c =
    let formats : Formats = formats_of g.F.Formats in
    let store = c.args.store.now in
    let old = c.args.handle.now in
    let before = c.args.workspace.now in
    let done = c.kdb_get.ensures in
    unget-goes formats store.lock store.plan c.args.parent.now old c.kdb_get.new.self before c.requires done.handle done.number done.proc done.seen done.own c.kdb_get.result c.in-Err.why c.in-Err.is
    (done.got (λ r. proc_of old.rec) refl)
