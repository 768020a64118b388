-- The story gains what the undoing told, and so does the handle.
use Rattle.std.proofs.Common.{◌++◌, List, Option, Some, sym, ap, subst, ◌∙◌}
use Rattle.model_store.specs.Store.{Formats, formats_of}
use Rattle.kdb_handle.specs.Handles.{handle_with}
use Rattle.kdb_handle.specs.Opened.{store_at}
use Rattle.kdb_handle.specs.Shares.{IsShared, told_now}
use Rattle.kdb_handle.specs.Story.{Told, commits_of, maker_of}
use Rattle.kdb_handle.specs.declared.shared.Shared.{Shared}
use Rattle.seat_lock.specs.Known.{Known}
use Rattle.seat_lock.specs.Story.{IsOneTurn}
use Rattle.kdb_handle.proofs.HandleLemmas.{ended, seated}
use Rattle.kdb_handle.proofs.RecordLemmas.{numbered}
use Rattle.store_verdict.specs.RecordView.{record_of}
use Rattle.kdb_handle.proofs.UndoHandles.{may_take, undo_covers, undo_turn, undone_so}
use Rattle.kdb_handle.proofs.handles.Handle.kdb_undo.Goals as goal

pub undo-done-requires : goal.undo-done-requires
undo-done-requires g c =
    let formats : Formats = formats_of g.F.Formats in
    let before = ap (λ (s : Option (Known Told)). handle_with s c.self.inside.rec) (sym c.in-Some.is ∙ c.take.ensures.value) ∙ c.self.view_is in
    let store = c.args.store.now in
    let turn = c.enter-turn in
    let found = c.value-core.result.now in
    let stands_for = λ (v : Shared g.row.D.Denot g.row.F.Denot g.row.P.Denot). IsShared formats g.D.Disk g.row.D.coded g.P.Patterns.refusals v.core v.entries turn.result.seen in
    let shared = subst stands_for (sym c.value-core.ensures.value) turn.ensures.stands in
    let number = c.self.invariant.number ∙ ap (λ (s : Option (Known Told)). (handle_with s c.self.inside.rec).number) (sym c.take.ensures.value ∙ c.in-Some.is) in
    let given = may_take store.lock store.plan c.args.self.now c.in-Some.seat c.self.inside.rec before c.requires
    formats g.D.Disk g.row.D.coded g.P.Patterns.refusals found.core found.entries turn.result.seen turn.ensures.seen shared number c.args.number turn.ensures.own in
    record { may = (turn.result.seen, given) }

pub leave-requires-clause-story : goal.leave-requires-clause-story
leave-requires-clause-story g c =
    let formats : Formats = formats_of g.F.Formats in
    let before = ap (λ (s : Option (Known Told)). handle_with s c.self.inside.rec) (sym c.in-Some.is ∙ c.take.ensures.value) ∙ c.self.view_is in
    let store = c.args.store.now in
    let turn = c.enter-turn in
    let found = c.value-core.result.now in
    let stands_for = λ (v : Shared g.row.D.Denot g.row.F.Denot g.row.P.Denot). IsShared formats g.D.Disk g.row.D.coded g.P.Patterns.refusals v.core v.entries turn.result.seen in
    let shared = subst stands_for (sym c.value-core.ensures.value) turn.ensures.stands in
    let number = c.self.invariant.number ∙ ap (λ (s : Option (Known Told)). (handle_with s c.self.inside.rec).number) (sym c.take.ensures.value ∙ c.in-Some.is) in
    let given = may_take store.lock store.plan c.args.self.now c.in-Some.seat c.self.inside.rec before c.requires
    formats g.D.Disk g.row.D.coded g.P.Patterns.refusals found.core found.entries turn.result.seen turn.ensures.seen shared number c.args.number turn.ensures.own in
    c.undo-done.ensures.shared turn.result.seen given

pub leave-requires-clause-one : goal.leave-requires-clause-one
leave-requires-clause-one g c =
    let formats : Formats = formats_of g.F.Formats in
    let before = ap (λ (s : Option (Known Told)). handle_with s c.self.inside.rec) (sym c.in-Some.is ∙ c.take.ensures.value) ∙ c.self.view_is in
    let store = c.args.store.now in
    let turn = c.enter-turn in
    let found = c.value-core.result.now in
    let stands_for = λ (v : Shared g.row.D.Denot g.row.F.Denot g.row.P.Denot). IsShared formats g.D.Disk g.row.D.coded g.P.Patterns.refusals v.core v.entries turn.result.seen in
    let shared = subst stands_for (sym c.value-core.ensures.value) turn.ensures.stands in
    let number = c.self.invariant.number ∙ ap (λ (s : Option (Known Told)). (handle_with s c.self.inside.rec).number) (sym c.take.ensures.value ∙ c.in-Some.is) in
    let given = may_take store.lock store.plan c.args.self.now c.in-Some.seat c.self.inside.rec before c.requires
    formats g.D.Disk g.row.D.coded g.P.Patterns.refusals found.core found.entries turn.result.seen turn.ensures.seen shared number c.args.number turn.ensures.own in
    let call = c.undo-done in
    subst (λ n. IsOneTurn maker_of n (told_now call.new.self.fresh)) (sym turn.ensures.same.1)
    (undo_turn store.lock store.plan c.args.self.now c.in-Some.seat c.self.inside.rec before c.requires
    formats g.D.Disk g.row.D.coded g.P.Patterns.refusals found.core found.entries turn.result.seen turn.ensures.seen shared number c.args.number call.result (told_now call.new.self.fresh) (call.ensures.told turn.result.seen given))

pub invariant_of-self : goal.invariant_of-self
invariant_of-self g c =
    let formats : Formats = formats_of g.F.Formats in
    let before = ap (λ (s : Option (Known Told)). handle_with s c.self.inside.rec) (sym c.in-Some.is ∙ c.take.ensures.value) ∙ c.self.view_is in
    let store = c.args.store.now in
    let turn = c.enter-turn in
    let found = c.value-core.result.now in
    let stands_for = λ (v : Shared g.row.D.Denot g.row.F.Denot g.row.P.Denot). IsShared formats g.D.Disk g.row.D.coded g.P.Patterns.refusals v.core v.entries turn.result.seen in
    let shared = subst stands_for (sym c.value-core.ensures.value) turn.ensures.stands in
    let number = c.self.invariant.number ∙ ap (λ (s : Option (Known Told)). (handle_with s c.self.inside.rec).number) (sym c.take.ensures.value ∙ c.in-Some.is) in
    let given = may_take store.lock store.plan c.args.self.now c.in-Some.seat c.self.inside.rec before c.requires
    formats g.D.Disk g.row.D.coded g.P.Patterns.refusals found.core found.entries turn.result.seen turn.ensures.seen shared number c.args.number turn.ensures.own in
    let call = c.undo-done in
    seated formats g.D.Disk g.row.D.coded g.P.Patterns.refusals call.new.self.core call.new.self.entries c.commits-self-inside.result (turn.result.seen ++ told_now call.new.self.fresh) c.leave.result call.new.rec
    (call.ensures.shared turn.result.seen given) (ap (λ (k : Known Told). k.seen) c.leave.ensures)
    (call.ensures.handle ∙ number ∙ sym turn.ensures.same.1 ∙ sym (ap (λ (k : Known Told). k.number) c.leave.ensures)) c.commits-self-inside.ensures

pub returns-clause-handle : goal.returns-clause-handle
returns-clause-handle g c =
    let formats : Formats = formats_of g.F.Formats in
    let before = ap (λ (s : Option (Known Told)). handle_with s c.self.inside.rec) (sym c.in-Some.is ∙ c.take.ensures.value) ∙ c.self.view_is in
    let store = c.args.store.now in
    let turn = c.enter-turn in
    let found = c.value-core.result.now in
    let stands_for = λ (v : Shared g.row.D.Denot g.row.F.Denot g.row.P.Denot). IsShared formats g.D.Disk g.row.D.coded g.P.Patterns.refusals v.core v.entries turn.result.seen in
    let shared = subst stands_for (sym c.value-core.ensures.value) turn.ensures.stands in
    let number = c.self.invariant.number ∙ ap (λ (s : Option (Known Told)). (handle_with s c.self.inside.rec).number) (sym c.take.ensures.value ∙ c.in-Some.is) in
    let given = may_take store.lock store.plan c.args.self.now c.in-Some.seat c.self.inside.rec before c.requires
    formats g.D.Disk g.row.D.coded g.P.Patterns.refusals found.core found.entries turn.result.seen turn.ensures.seen shared number c.args.number turn.ensures.own in
    let call = c.undo-done in
    ended store.lock store.plan c.args.self.now c.in-Some.seat c.self.inside.rec before c.requires
    call.new.rec turn.result.place turn.result.number turn.result.seen turn.result.own (told_now call.new.self.fresh) c.leave.result c.leave.ensures turn.ensures.same turn.ensures.seen turn.ensures.own
    (undo_turn store.lock store.plan c.args.self.now c.in-Some.seat c.self.inside.rec before c.requires
    formats g.D.Disk g.row.D.coded g.P.Patterns.refusals found.core found.entries turn.result.seen turn.ensures.seen shared number c.args.number call.result (told_now call.new.self.fresh) (call.ensures.told turn.result.seen given)) call.ensures.places call.ensures.proc
    (numbered (store_at store.plan.mounted) (commits_of (turn.result.seen ++ told_now call.new.self.fresh)) _ _ (record_of call.new.rec) (call.ensures.handle ∙ number) (call.ensures.keeps turn.result.seen given))
    (undo_covers store.lock store.plan c.args.self.now c.in-Some.seat c.self.inside.rec before c.requires
    formats g.D.Disk g.row.D.coded g.P.Patterns.refusals found.core found.entries turn.result.seen turn.ensures.seen shared number c.args.number
    c.args.keys.now call.new.keys call.new.rec call.result (told_now call.new.self.fresh) turn.ensures.own (call.ensures.told turn.result.seen given) (call.ensures.undone turn.result.seen given))

pub returns-clause-undone : goal.returns-clause-undone
returns-clause-undone g c =
    let formats : Formats = formats_of g.F.Formats in
    let before = ap (λ (s : Option (Known Told)). handle_with s c.self.inside.rec) (sym c.in-Some.is ∙ c.take.ensures.value) ∙ c.self.view_is in
    let store = c.args.store.now in
    let turn = c.enter-turn in
    let found = c.value-core.result.now in
    let stands_for = λ (v : Shared g.row.D.Denot g.row.F.Denot g.row.P.Denot). IsShared formats g.D.Disk g.row.D.coded g.P.Patterns.refusals v.core v.entries turn.result.seen in
    let shared = subst stands_for (sym c.value-core.ensures.value) turn.ensures.stands in
    let number = c.self.invariant.number ∙ ap (λ (s : Option (Known Told)). (handle_with s c.self.inside.rec).number) (sym c.take.ensures.value ∙ c.in-Some.is) in
    let given = may_take store.lock store.plan c.args.self.now c.in-Some.seat c.self.inside.rec before c.requires
    formats g.D.Disk g.row.D.coded g.P.Patterns.refusals found.core found.entries turn.result.seen turn.ensures.seen shared number c.args.number turn.ensures.own in
    let call = c.undo-done in
    undone_so store.lock store.plan c.args.self.now c.in-Some.seat c.self.inside.rec before c.requires
    formats g.D.Disk g.row.D.coded g.P.Patterns.refusals found.core found.entries turn.result.seen turn.ensures.seen shared number c.args.number
    c.args.keys.now call.new.keys (handle_with (Some c.leave.result) call.new.rec) call.result (told_now call.new.self.fresh) turn.ensures.own (call.ensures.told turn.result.seen given) (ap (λ (k : Known Told). k.seen) c.leave.ensures)
    (ap (λ (k : Known Told). k.own) c.leave.ensures ∙ ap (λ (l : List Told). l ++ told_now call.new.self.fresh) turn.ensures.same.2) (call.ensures.undone turn.result.seen given)
