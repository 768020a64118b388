-- The story gains what the commit told, and so does the handle.
use Rattle.std.proofs.Common.{◌++◌, List, Option, Some, sym, ap, subst, ◌∙◌}
use Rattle.model_store.specs.Store.{Formats, formats_of}
use Rattle.kdb_handle.specs.Handles.{handle_with}
use Rattle.kdb_handle.specs.Opened.{store_at}
use Rattle.kdb_handle.specs.Shares.{IsShared, told_now}
use Rattle.kdb_handle.specs.Story.{Told, commits_of, maker_of}
use Rattle.kdb_handle.specs.declared.shared.Shared.{Shared}
use Rattle.seat_lock.specs.Known.{Known}
use Rattle.seat_lock.specs.Story.{IsOneTurn}
use Rattle.kdb_handle.proofs.HandleLemmas.{ended, may, set_turn, done_covers, done_so, seated}
use Rattle.kdb_handle.proofs.RecordLemmas.{numbered}
use Rattle.store_verdict.specs.RecordView.{record_of}
use Rattle.kdb_handle.proofs.handles.Handle.commit.Goals as goal

pub commit-done-requires : goal.commit-done-requires
commit-done-requires g c =
    let formats : Formats = formats_of g.F.Formats in
    let before = ap (λ (s : Option (Known Told)). handle_with s c.self.inside.rec) (sym c.in-Some.is ∙ c.take.ensures.value) ∙ c.self.view_is in
    let store = c.args.store.now in
    let turn = c.enter-turn in
    let found = c.value-core.result.now in
    let stands_for = λ (v : Shared g.row.D.Denot g.row.F.Denot g.row.P.Denot). IsShared formats g.D.Disk g.row.D.coded g.P.Patterns.refusals v.core v.entries turn.result.seen in
    let shared = subst stands_for (sym c.value-core.ensures.value) turn.ensures.stands in
    let number = c.self.invariant.number ∙ ap (λ (s : Option (Known Told)). (handle_with s c.self.inside.rec).number) (sym c.take.ensures.value ∙ c.in-Some.is) in
    let given = may store.lock store.plan c.args.self.now c.in-Some.seat c.self.inside.rec before c.requires.handle
    formats g.D.Disk g.row.D.coded g.P.Patterns.refusals found.core found.entries turn.result.seen turn.ensures.seen shared number c.args.prepared c.requires.prepared turn.ensures.own in
    record { may = (turn.result.seen, given) }

pub leave-requires-clause-story : goal.leave-requires-clause-story
leave-requires-clause-story g c =
    let formats : Formats = formats_of g.F.Formats in
    let before = ap (λ (s : Option (Known Told)). handle_with s c.self.inside.rec) (sym c.in-Some.is ∙ c.take.ensures.value) ∙ c.self.view_is in
    let store = c.args.store.now in
    let turn = c.enter-turn in
    let found = c.value-core.result.now in
    let stands_for = λ (v : Shared g.row.D.Denot g.row.F.Denot g.row.P.Denot). IsShared formats g.D.Disk g.row.D.coded g.P.Patterns.refusals v.core v.entries turn.result.seen in
    let shared = subst stands_for (sym c.value-core.ensures.value) turn.ensures.stands in
    let number = c.self.invariant.number ∙ ap (λ (s : Option (Known Told)). (handle_with s c.self.inside.rec).number) (sym c.take.ensures.value ∙ c.in-Some.is) in
    let given = may store.lock store.plan c.args.self.now c.in-Some.seat c.self.inside.rec before c.requires.handle
    formats g.D.Disk g.row.D.coded g.P.Patterns.refusals found.core found.entries turn.result.seen turn.ensures.seen shared number c.args.prepared c.requires.prepared turn.ensures.own in
    c.commit-done.ensures.shared turn.result.seen given

pub leave-requires-clause-one : goal.leave-requires-clause-one
leave-requires-clause-one g c =
    let formats : Formats = formats_of g.F.Formats in
    let before = ap (λ (s : Option (Known Told)). handle_with s c.self.inside.rec) (sym c.in-Some.is ∙ c.take.ensures.value) ∙ c.self.view_is in
    let store = c.args.store.now in
    let turn = c.enter-turn in
    let found = c.value-core.result.now in
    let stands_for = λ (v : Shared g.row.D.Denot g.row.F.Denot g.row.P.Denot). IsShared formats g.D.Disk g.row.D.coded g.P.Patterns.refusals v.core v.entries turn.result.seen in
    let shared = subst stands_for (sym c.value-core.ensures.value) turn.ensures.stands in
    let number = c.self.invariant.number ∙ ap (λ (s : Option (Known Told)). (handle_with s c.self.inside.rec).number) (sym c.take.ensures.value ∙ c.in-Some.is) in
    subst (λ n. IsOneTurn maker_of n (told_now c.commit-done.new.self.fresh)) (sym turn.ensures.same.1)
    (set_turn store.lock store.plan c.args.self.now c.in-Some.seat c.self.inside.rec before c.requires.handle
    formats g.D.Disk g.row.D.coded g.P.Patterns.refusals found.core found.entries turn.result.seen turn.ensures.seen shared number c.args.prepared c.requires.prepared
    c.commit-done.result (told_now c.commit-done.new.self.fresh) c.commit-done.ensures.told)

pub invariant_of-self : goal.invariant_of-self
invariant_of-self g c =
    let formats : Formats = formats_of g.F.Formats in
    let before = ap (λ (s : Option (Known Told)). handle_with s c.self.inside.rec) (sym c.in-Some.is ∙ c.take.ensures.value) ∙ c.self.view_is in
    let store = c.args.store.now in
    let turn = c.enter-turn in
    let found = c.value-core.result.now in
    let stands_for = λ (v : Shared g.row.D.Denot g.row.F.Denot g.row.P.Denot). IsShared formats g.D.Disk g.row.D.coded g.P.Patterns.refusals v.core v.entries turn.result.seen in
    let shared = subst stands_for (sym c.value-core.ensures.value) turn.ensures.stands in
    let number = c.self.invariant.number ∙ ap (λ (s : Option (Known Told)). (handle_with s c.self.inside.rec).number) (sym c.take.ensures.value ∙ c.in-Some.is) in
    let given = may store.lock store.plan c.args.self.now c.in-Some.seat c.self.inside.rec before c.requires.handle
    formats g.D.Disk g.row.D.coded g.P.Patterns.refusals found.core found.entries turn.result.seen turn.ensures.seen shared number c.args.prepared c.requires.prepared turn.ensures.own in
    seated formats g.D.Disk g.row.D.coded g.P.Patterns.refusals c.commit-done.new.self.core c.commit-done.new.self.entries c.commits-self-inside.result (turn.result.seen ++ told_now c.commit-done.new.self.fresh) c.leave.result c.commit-done.new.rec
    (c.commit-done.ensures.shared turn.result.seen given) (ap (λ (k : Known Told). k.seen) c.leave.ensures)
    (c.commit-done.ensures.handle ∙ number ∙ sym turn.ensures.same.1 ∙ sym (ap (λ (k : Known Told). k.number) c.leave.ensures)) c.commits-self-inside.ensures

pub returns-clause-handle : goal.returns-clause-handle
returns-clause-handle g c =
    let formats : Formats = formats_of g.F.Formats in
    let before = ap (λ (s : Option (Known Told)). handle_with s c.self.inside.rec) (sym c.in-Some.is ∙ c.take.ensures.value) ∙ c.self.view_is in
    let store = c.args.store.now in
    let turn = c.enter-turn in
    let found = c.value-core.result.now in
    let stands_for = λ (v : Shared g.row.D.Denot g.row.F.Denot g.row.P.Denot). IsShared formats g.D.Disk g.row.D.coded g.P.Patterns.refusals v.core v.entries turn.result.seen in
    let shared = subst stands_for (sym c.value-core.ensures.value) turn.ensures.stands in
    let number = c.self.invariant.number ∙ ap (λ (s : Option (Known Told)). (handle_with s c.self.inside.rec).number) (sym c.take.ensures.value ∙ c.in-Some.is) in
    let given = may store.lock store.plan c.args.self.now c.in-Some.seat c.self.inside.rec before c.requires.handle
    formats g.D.Disk g.row.D.coded g.P.Patterns.refusals found.core found.entries turn.result.seen turn.ensures.seen shared number c.args.prepared c.requires.prepared turn.ensures.own in
    ended store.lock store.plan c.args.self.now c.in-Some.seat c.self.inside.rec before c.requires.handle
    c.commit-done.new.rec turn.result.place turn.result.number turn.result.seen turn.result.own (told_now c.commit-done.new.self.fresh) c.leave.result c.leave.ensures turn.ensures.same turn.ensures.seen turn.ensures.own
    (set_turn store.lock store.plan c.args.self.now c.in-Some.seat c.self.inside.rec before c.requires.handle
    formats g.D.Disk g.row.D.coded g.P.Patterns.refusals found.core found.entries turn.result.seen turn.ensures.seen shared number c.args.prepared c.requires.prepared
    c.commit-done.result (told_now c.commit-done.new.self.fresh) c.commit-done.ensures.told) c.commit-done.ensures.places c.commit-done.ensures.proc
    (numbered (store_at store.plan.mounted) (commits_of (turn.result.seen ++ told_now c.commit-done.new.self.fresh)) _ _ (record_of c.commit-done.new.rec) (c.commit-done.ensures.handle ∙ number) (c.commit-done.ensures.keeps turn.result.seen given))
    (done_covers store.lock store.plan c.args.self.now c.in-Some.seat c.self.inside.rec before c.requires.handle
    formats g.D.Disk g.row.D.coded g.P.Patterns.refusals found.core found.entries turn.result.seen turn.ensures.seen shared number c.args.prepared c.requires.prepared
    c.commit-done.new.rec c.commit-done.result (told_now c.commit-done.new.self.fresh) turn.ensures.own c.commit-done.ensures.told
    (c.commit-done.ensures.kept turn.result.seen given))

pub returns-clause-done : goal.returns-clause-done
returns-clause-done g c =
    let formats : Formats = formats_of g.F.Formats in
    let before = ap (λ (s : Option (Known Told)). handle_with s c.self.inside.rec) (sym c.in-Some.is ∙ c.take.ensures.value) ∙ c.self.view_is in
    let store = c.args.store.now in
    let turn = c.enter-turn in
    let found = c.value-core.result.now in
    let stands_for = λ (v : Shared g.row.D.Denot g.row.F.Denot g.row.P.Denot). IsShared formats g.D.Disk g.row.D.coded g.P.Patterns.refusals v.core v.entries turn.result.seen in
    let shared = subst stands_for (sym c.value-core.ensures.value) turn.ensures.stands in
    let number = c.self.invariant.number ∙ ap (λ (s : Option (Known Told)). (handle_with s c.self.inside.rec).number) (sym c.take.ensures.value ∙ c.in-Some.is) in
    let given = may store.lock store.plan c.args.self.now c.in-Some.seat c.self.inside.rec before c.requires.handle
    formats g.D.Disk g.row.D.coded g.P.Patterns.refusals found.core found.entries turn.result.seen turn.ensures.seen shared number c.args.prepared c.requires.prepared turn.ensures.own in
    done_so store.lock store.plan c.args.self.now c.in-Some.seat c.self.inside.rec before c.requires.handle
    formats g.D.Disk g.row.D.coded g.P.Patterns.refusals found.core found.entries turn.result.seen turn.ensures.seen shared number c.args.prepared c.requires.prepared
    (handle_with (Some c.leave.result) c.commit-done.new.rec) c.commit-done.result (told_now c.commit-done.new.self.fresh) turn.ensures.own c.commit-done.ensures.told (ap (λ (k : Known Told). k.seen) c.leave.ensures)
    (ap (λ (k : Known Told). k.own) c.leave.ensures ∙ ap (λ (l : List Told). l ++ told_now c.commit-done.new.self.fresh) turn.ensures.same.2) c.commit-done.ensures.judged
    (c.commit-done.ensures.kept turn.result.seen given)
