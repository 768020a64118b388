-- The story of the closed lock is that of the core.
use Rattle.std.proofs.Common.{◌≡◌, ◌+◌, ◌++◌, ◌∷◌, [], All, List, ap, arith, length, sym, subst, ◌∙◌}
use Rattle.std.proofs.lemmas.List.{length_push}
use mathlib.Core.List.{IsPrefix}
use Rattle.std.specs.Option.{option_or}
use Rattle.std.specs.Vec.{vec_capacity}
use Rattle.kdb_handle.specs.Handles.{seat_in}
use Rattle.kdb_handle.specs.Stores.{seats_back}
use Rattle.kdb_handle.specs.Story.{Told, maker_of}
use Rattle.kdb_handle.proofs.CloseLemmas.{all_places, all_counted, closed_so}
use Rattle.kdb_handle.proofs.SeatLemmas.{AreUnused, unused_all}
use Rattle.seat_lock.specs.Known.{Known}
use Rattle.seat_lock.specs.Story.{made_by}
use Rattle.kdb_handle.proofs.closing.Locked+Shared+D+F+P+F.close_store.Goals as goal
use Rattle.model_store.specs.Store.{formats_of}

pub left_over-requires-clause-room : goal.left_over-requires-clause-room
left_over-requires-clause-room g c = omega (arith, c.requires.free.some, c.requires.free.room_is)

pub left_over-requires-clause-flusher : goal.left_over-requires-clause-flusher
left_over-requires-clause-flusher g c = (c.args.self.lock, c.requires.flusher)

pub gather-seats-requires : goal.gather-seats-requires
gather-seats-requires g c =
    let all = c.requires.all in
    let room = c.requires.free.room_is in
    let same = c.left_over.ensures.room in
    let last = seat_in (option_or c.args.seats.flusher c.args.flusher) in
    let long = ap (λ (l : List (Known Told)). length l) c.left_over.ensures.items ∙ length_push c.args.seats.seats.items last in
    omega arith

pub close-core-requires-clause-place : goal.close-core-requires-clause-place
close-core-requires-clause-place g c =
    let lock = c.args.self.lock in
    let seats = c.args.seats.seats.items in
    let last = seat_in (option_or c.args.seats.flusher c.args.flusher) in
    let are = c.gather-seats.ensures ∙ ap (λ (l : List (Known Told)). l ++ seats_back c.args.handles.items) c.left_over.ensures.items in
    subst (λ (l : List (Known Told)). All (λ (seat : Known Told). seat.place ≡ lock.place) l) (sym are)
    (all_places lock c.args.self.plan (seats ++ last ∷ []) c.args.handles.items
    (unused_all lock seats (vec_capacity c.args.seats.seats) c.args.seats.flusher c.args.flusher c.requires.free c.requires.flusher) c.requires.handles)

pub close-core-requires-clause-all : goal.close-core-requires-clause-all
close-core-requires-clause-all g c =
    let seats = c.args.seats.seats.items in
    let last = seat_in (option_or c.args.seats.flusher c.args.flusher) in
    let are = c.gather-seats.ensures ∙ ap (λ (l : List (Known Told)). l ++ seats_back c.args.handles.items) c.left_over.ensures.items in
    let all = c.requires.all in
    let many : length c.args.handles.items + length (seats ++ last ∷ []) ≡ c.args.self.lock.seats = omega (arith, all, length_push seats last) in
    all_counted c.args.self.lock (seats ++ last ∷ []) c.gather-seats.result.items c.args.handles.items are many

pub returns : goal.returns
returns g c journal is =
    let log : List Told = c.close-core.ensures.log in
    let lock = c.args.self.lock in
    let seats = c.args.seats.seats.items in
    let last = seat_in (option_or c.args.seats.flusher c.args.flusher) in
    let are = c.gather-seats.ensures ∙ ap (λ (l : List (Known Told)). l ++ seats_back c.args.handles.items) c.left_over.ensures.items in
    let unused : AreUnused lock (seats ++ last ∷ []) = unused_all lock seats (vec_capacity c.args.seats.seats) c.args.seats.flusher c.args.flusher c.requires.free c.requires.flusher in
    let all = c.requires.all in
    let many : length c.args.handles.items + length (seats ++ last ∷ []) ≡ lock.seats = omega (arith, all, length_push seats last) in
    closed_so (formats_of g.F.Formats) g.D.Disk g.row.D.coded g.P.Patterns.refusals lock c.args.self.plan c.requires.started
    (seats ++ last ∷ []) unused c.args.handles.items c.close-core.result.core c.close-core.result.entries
    log c.close-core.ensures.stands_for
    (subst (λ (l : List (Known Told)). All (λ (seat : Known Told). made_by maker_of seat.number log ≡ seat.own) l) are c.close-core.ensures.own) c.close-core.ensures.first c.close-core.ensures.others
    (subst (λ (l : List (Known Told)). All (λ (seat : Known Told). IsPrefix seat.seen log) l) are c.close-core.ensures.seen) c.close.result journal is
    many c.close.ensures.history c.close.ensures.patterns c.close.ensures.left_alone c.close.ensures.shown c.close.ensures.calm c.close.ensures.always c.close.ensures.now c.close.ensures.goes
