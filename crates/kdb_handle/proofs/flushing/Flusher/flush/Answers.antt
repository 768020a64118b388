-- A flush leaves the story, and its seat has then seen it.
use Rattle.std.proofs.Common.{◌≡◌, List, Option, sym, ap, subst, ◌∙◌}
use mathlib.Core.List.{IsPrefix}
use Rattle.kdb_handle.specs.Handles.{seat_in}
use Rattle.kdb_handle.specs.Shares.{IsShared, told_now}
use Rattle.kdb_handle.specs.Story.{Told}
use Rattle.kdb_handle.specs.declared.shared.Shared.{Shared}
use Rattle.kdb_handle.proofs.SeatLemmas.{still_flusher}
use Rattle.model_store.specs.Store.{Formats, formats_of}
use Rattle.seat_lock.specs.Known.{Known}
use Rattle.seat_lock.proofs.Prefixes.{prefix-more}
use Rattle.kdb_handle.proofs.flushing.Flusher.flush.Goals as goal

pub leave-requires-clause-story : goal.leave-requires-clause-story
leave-requires-clause-story g c =
    let formats : Formats = formats_of g.F.Formats in
    let turn = c.enter-turn in
    let stands_for = λ (v : Shared g.row.D.Denot g.row.F.Denot g.row.P.Denot). IsShared formats g.D.Disk g.row.D.coded g.P.Patterns.refusals v.core v.entries turn.result.seen in
    c.flush.ensures.shared turn.result.seen (subst stands_for (sym c.value-core.ensures.value) turn.ensures.stands)

pub returns-clause-flusher : goal.returns-clause-flusher
returns-clause-flusher g c =
    let turn = c.enter-turn in
    let before : c.in-Some.seat ≡ c.args.self.now = ap seat_in (sym c.in-Some.is ∙ c.take.ensures.value) ∙ c.self.view_is in
    still_flusher c.args.store.now.lock c.args.self.now c.leave.result turn.result.place turn.result.number turn.result.seen turn.result.own (told_now c.flush.new.self.fresh) c.requires
    (subst (λ (k : Known Told). IsPrefix k.seen turn.result.seen) before turn.ensures.seen)
    (turn.ensures.same.0 ∙ ap (λ (k : Known Told). k.place) before) (turn.ensures.same.1 ∙ ap (λ (k : Known Told). k.number) before)
    (turn.ensures.same.2 ∙ ap (λ (k : Known Told). k.own) before) c.flush.ensures.told c.leave.ensures

pub returns-clause-seen : goal.returns-clause-seen
returns-clause-seen g c =
    let turn = c.enter-turn in
    let before : c.in-Some.seat ≡ c.args.self.now = ap seat_in (sym c.in-Some.is ∙ c.take.ensures.value) ∙ c.self.view_is in
    subst (λ (k : Known Told). IsPrefix c.args.self.now.seen k.seen) (sym c.leave.ensures)
    (prefix-more c.args.self.now.seen turn.result.seen (told_now c.flush.new.self.fresh) (subst (λ (k : Known Told). IsPrefix k.seen turn.result.seen) before turn.ensures.seen))
