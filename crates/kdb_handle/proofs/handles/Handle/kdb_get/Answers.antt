-- A get leaves the story, and its record is that of its fronts in it.
use Rattle.std.proofs.Common.{◌++◌, List, Option, inl, sym, ap, subst, ◌∙◌, append-nil}
use Rattle.kdb_handle.specs.Handles.{handle_with}
use Rattle.kdb_handle.specs.Shares.{IsShared, told_now}
use Rattle.kdb_handle.specs.Story.{Told, commits_of}
use Rattle.kdb_handle.specs.declared.shared.Shared.{Shared}
use Rattle.seat_lock.specs.Known.{Known}
use Rattle.kdb_handle.specs.Opened.{store_at}
use Rattle.kdb_handle.proofs.HandleLemmas.{ended, got_covers, got_keeps, got_so}
use Rattle.kdb_handle.proofs.SharedLemmas.{shared_same}
use Rattle.model_store.specs.Records.{IsRecord}
use Rattle.model_store.specs.Sets.{front_in}
use Rattle.model_store.specs.Store.{Formats, formats_of}
use Rattle.store_verdict.specs.RecordView.{record_of}
use Rattle.kdb_handle.proofs.handles.Handle.kdb_get.Goals as goal

pub leave-requires-clause-story : goal.leave-requires-clause-story
leave-requires-clause-story g c =
    let formats : Formats = formats_of g.F.Formats in
    let turn = c.enter-turn in
    let found = c.value-core.result.now in
    let stands_for = λ (v : Shared g.row.D.Denot g.row.F.Denot g.row.P.Denot). IsShared formats g.D.Disk g.row.D.coded g.P.Patterns.refusals v.core v.entries turn.result.seen in
    let shared = subst stands_for (sym c.value-core.ensures.value) turn.ensures.stands in
    let after = c.get-got.new.self in
    shared_same formats g.D.Disk g.row.D.coded g.P.Patterns.refusals found.core after.core found.entries after.entries turn.result.seen (told_now after.fresh)
    c.get-got.ensures.core c.get-got.ensures.entries c.get-got.ensures.told shared

pub returns-clause-handle : goal.returns-clause-handle
returns-clause-handle g c =
    let formats : Formats = formats_of g.F.Formats in
    let turn = c.enter-turn in
    let found = c.value-core.result.now in
    let stands_for = λ (v : Shared g.row.D.Denot g.row.F.Denot g.row.P.Denot). IsShared formats g.D.Disk g.row.D.coded g.P.Patterns.refusals v.core v.entries turn.result.seen in
    let shared = subst stands_for (sym c.value-core.ensures.value) turn.ensures.stands in
    let before = ap (λ (s : Option (Known Told)). handle_with s c.self.inside.rec) (sym c.in-Some.is ∙ c.take.ensures.value) ∙ c.self.view_is in
    let store = c.args.store.now in
    let get = c.get-got in
    let told : List Told = told_now get.new.self.fresh in
    let seen : List Told = turn.result.seen in
    let rec = get.new.rec in
    let keeps = got_keeps store.lock store.plan c.args.self.now c.in-Some.seat c.self.inside.rec before c.requires formats g.D.Disk g.row.D.coded g.P.Patterns.refusals
    found.core found.entries seen turn.ensures.seen shared turn.ensures.own c.args.parent.now rec get.result get.ensures.got in
    ended store.lock store.plan c.args.self.now c.in-Some.seat c.self.inside.rec before c.requires
    rec turn.result.place turn.result.number seen turn.result.own told c.leave.result c.leave.ensures turn.ensures.same turn.ensures.seen turn.ensures.own (inl get.ensures.told) get.ensures.places get.ensures.proc
    (subst (λ (l : List Told). IsRecord (store_at store.plan.mounted) (commits_of l) c.in-Some.seat.number (front_in (record_of rec)) (record_of rec)) (sym (append-nil seen) ∙ ap (λ (l : List Told). seen ++ l) (sym get.ensures.told)) keeps)
    (got_covers store.lock store.plan c.args.self.now c.in-Some.seat c.self.inside.rec before c.requires formats g.D.Disk g.row.D.coded g.P.Patterns.refusals
    found.core found.entries seen turn.ensures.seen shared turn.ensures.own c.args.parent.now rec get.result get.ensures.got told get.ensures.told)

pub returns-clause-got : goal.returns-clause-got
returns-clause-got g c procs own =
    let formats : Formats = formats_of g.F.Formats in
    let turn = c.enter-turn in
    let found = c.value-core.result.now in
    let stands_for = λ (v : Shared g.row.D.Denot g.row.F.Denot g.row.P.Denot). IsShared formats g.D.Disk g.row.D.coded g.P.Patterns.refusals v.core v.entries turn.result.seen in
    let shared = subst stands_for (sym c.value-core.ensures.value) turn.ensures.stands in
    let before = ap (λ (s : Option (Known Told)). handle_with s c.self.inside.rec) (sym c.in-Some.is ∙ c.take.ensures.value) ∙ c.self.view_is in
    let store = c.args.store.now in
    let get = c.get-got in
    let number = c.self.invariant.number ∙ ap (λ (s : Option (Known Told)). (handle_with s c.self.inside.rec).number) (sym c.take.ensures.value ∙ c.in-Some.is) in
    got_so store.lock store.plan c.args.self.now c.in-Some.seat c.self.inside.rec before c.requires formats g.D.Disk g.row.D.coded g.P.Patterns.refusals
    found.core found.entries turn.result.seen turn.ensures.seen shared number c.args.parent.now get.new.rec get.result get.ensures.got procs own c.leave.result.seen
    (ap (λ (k : Known Told). k.seen) c.leave.ensures ∙ ap (λ (l : List Told). turn.result.seen ++ l) get.ensures.told ∙ append-nil turn.result.seen)
