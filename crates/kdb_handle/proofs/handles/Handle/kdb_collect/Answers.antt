-- A look at the commits leaves the story, and the handle's record.
use Rattle.std.proofs.Common.{◌≡◌, List, Option, sym, ap, subst, ◌∙◌}
use Rattle.std.proofs.lemmas.Result.{on_ok_weaker}
use Rattle.kdb_handle.specs.Handles.{handle_with}
use Rattle.kdb_handle.specs.Shares.{IsShared, told_now}
use Rattle.kdb_handle.specs.Story.{Told}
use Rattle.kdb_handle.specs.declared.shared.Shared.{Shared}
use Rattle.kdb_handle.proofs.HandleLemmas.{looked, looked_at, looked_behind}
use Rattle.kdb_handle.proofs.SharedLemmas.{shared_same}
use Rattle.model_history.specs.History.{Commit}
use Rattle.model_store.specs.Store.{Formats, formats_of}
use Rattle.seat_lock.specs.Known.{Known}
use Rattle.watch_feed.specs.Watches.{collected}
use Rattle.kdb_handle.proofs.handles.Handle.kdb_collect.Goals as goal

pub collect-answer-requires : goal.collect-answer-requires
collect-answer-requires g c =
    let formats : Formats = formats_of g.F.Formats in
    let turn = c.enter-turn in
    let found = c.value-core.result.now in
    let stands_for = λ (v : Shared g.row.D.Denot g.row.F.Denot g.row.P.Denot). IsShared formats g.D.Disk g.row.D.coded g.P.Patterns.refusals v.core v.entries turn.result.seen in
    let shared = subst stands_for (sym c.value-core.ensures.value) turn.ensures.stands in
    let before = ap (λ (s : Option (Known Told)). handle_with s c.self.inside.rec) (sym c.in-Some.is ∙ c.take.ensures.value) ∙ c.self.view_is in
    let store = c.args.store.now in
    looked_behind store.lock store.plan c.args.self.now c.in-Some.seat c.self.inside.rec before c.requires.handle formats g.D.Disk g.row.D.coded g.P.Patterns.refusals
    found.core found.entries turn.result.seen turn.ensures.seen shared c.args.watch.now.front c.requires.front

pub leave-requires-clause-story : goal.leave-requires-clause-story
leave-requires-clause-story g c =
    let formats : Formats = formats_of g.F.Formats in
    let turn = c.enter-turn in
    let found = c.value-core.result.now in
    let stands_for = λ (v : Shared g.row.D.Denot g.row.F.Denot g.row.P.Denot). IsShared formats g.D.Disk g.row.D.coded g.P.Patterns.refusals v.core v.entries turn.result.seen in
    let shared = subst stands_for (sym c.value-core.ensures.value) turn.ensures.stands in
    let after = c.collect-answer.new.self in
    shared_same formats g.D.Disk g.row.D.coded g.P.Patterns.refusals found.core after.core found.entries after.entries turn.result.seen (told_now after.fresh)
    c.collect-answer.ensures.core c.collect-answer.ensures.entries c.collect-answer.ensures.told shared

pub returns-clause-handle : goal.returns-clause-handle
returns-clause-handle g c =
    let formats : Formats = formats_of g.F.Formats in
    let turn = c.enter-turn in
    let found = c.value-core.result.now in
    let stands_for = λ (v : Shared g.row.D.Denot g.row.F.Denot g.row.P.Denot). IsShared formats g.D.Disk g.row.D.coded g.P.Patterns.refusals v.core v.entries turn.result.seen in
    let shared = subst stands_for (sym c.value-core.ensures.value) turn.ensures.stands in
    let before = ap (λ (s : Option (Known Told)). handle_with s c.self.inside.rec) (sym c.in-Some.is ∙ c.take.ensures.value) ∙ c.self.view_is in
    let store = c.args.store.now in
    looked store.lock store.plan c.args.self.now c.in-Some.seat c.self.inside.rec before c.requires.handle formats g.D.Disk g.row.D.coded g.P.Patterns.refusals
    found.core found.entries turn.result.seen turn.ensures.seen shared turn.result.place turn.result.number turn.result.own (told_now c.collect-answer.new.self.fresh) c.leave.result
    c.leave.ensures turn.ensures.same turn.ensures.own c.collect-answer.ensures.told

pub returns-clause-ok : goal.returns-clause-ok
returns-clause-ok g c =
    let formats : Formats = formats_of g.F.Formats in
    let turn = c.enter-turn in
    let found = c.value-core.result.now in
    let stands_for = λ (v : Shared g.row.D.Denot g.row.F.Denot g.row.P.Denot). IsShared formats g.D.Disk g.row.D.coded g.P.Patterns.refusals v.core v.entries turn.result.seen in
    let shared = subst stands_for (sym c.value-core.ensures.value) turn.ensures.stands in
    let before = ap (λ (s : Option (Known Told)). handle_with s c.self.inside.rec) (sym c.in-Some.is ∙ c.take.ensures.value) ∙ c.self.view_is in
    let store = c.args.store.now in
    let all = looked_at store.lock store.plan c.args.self.now c.in-Some.seat c.self.inside.rec before c.requires.handle formats g.D.Disk g.row.D.coded g.P.Patterns.refusals
    found.core found.entries turn.result.seen turn.ensures.seen shared c.leave.result.seen (told_now c.collect-answer.new.self.fresh) (ap (λ (k : Known Told). k.seen) c.leave.ensures) c.collect-answer.ensures.told in
    on_ok_weaker c.collect-answer.result (λ (done : c.collect-answer.new.watch ≡ collected c.args.watch.now found.core.history.commits). done ∙ ap (λ (cs : List Commit). collected c.args.watch.now cs) all) c.collect-answer.ensures.ok
