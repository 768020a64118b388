-- The handles and the flusher come back from the sessions, and the store is closed with them.
use Rattle.std.proofs.Common.{◌≡◌, ◌∙◌, ℕ, List, Option, None, Some, ap, length, subst, sym}
use Rattle.std.specs.Option.{option_or}
use Rattle.batch_run.specs.Closes.{AreFresh}
use Rattle.batch_run.proofs.Ending.{journal_is, played, run-done}
use Rattle.general_words.proofs.Lists.{some_is}
use Rattle.kdb_handle.specs.Closing.{IsClosed}
use Rattle.kdb_handle.specs.Handles.{HandleValue}
use Rattle.kdb_handle.specs.Opened.{opening_in}
use Rattle.kdb_handle.specs.Stores.{AreFree, IsFlusher}
use Rattle.kdb_handle.specs.Story.{Told}
use Rattle.kdb_handle.specs.Views.{lock_of, plan_of, room_of, seats_of}
use Rattle.model_batch.specs.Scripts.{procs_of, sessions_of}
use Rattle.model_store.specs.Store.{Formats, formats_of}
use Rattle.seat_lock.specs.Known.{Known}
use Rattle.batch_run.proofs.playing.play_with_handles.Goals as goal

pub run_sessions-handles-requires-clause-flusher : goal.run_sessions-handles-requires-clause-flusher
run_sessions-handles-requires-clause-flusher g c κs within =
    let has = c.requires.flusher in
    let there : Some c.in-Some.flusher ≡ Some has.flusher = ap (λ (o : Option (Known Told)). option_or o None) (sym c.in-Some.is ∙ c.flusher.ensures.given) ∙ has.there in
    subst (IsFlusher (lock_of c.args.store)) (sym (some_is c.in-Some.flusher has.flusher there)) has.is

pub close_store-closed-requires-clause-free : goal.close_store-closed-requires-clause-free
close_store-closed-requires-clause-free g c =
    let lock = lock_of c.args.store in
    let same = c.flusher.ensures.seats in
    subst (λ (n : ℕ). AreFree lock (seats_of c.flusher.new.self) n) (sym same.1) (subst (λ (l : List (Known Told)). AreFree lock l (room_of c.args.seats)) (sym same.0) c.requires.opened.free)

pub close_store-closed-requires-clause-flusher : goal.close_store-closed-requires-clause-flusher
close_store-closed-requires-clause-flusher g c =
    let flusher = c.run_sessions-handles.result.flusher in record {
      flusher = flusher;
      there = ap (λ (o : Option (Known Told)). option_or o (Some flusher)) c.flusher.ensures.none;
      is = c.run_sessions-handles.ensures.flusher;
    }

pub returns : goal.returns
returns g c = λ core start.
    let formats : Formats = formats_of g.F.Formats in
    let lock = lock_of c.args.store in
    let plan = plan_of c.args.store in
    let script = c.args.script.now in
    let given = c.from_vec.result in
    let sessions = c.run_sessions-handles in
    let handles = sessions.result.handles in
    let fresh = subst (AreFresh lock plan (procs_of script)) (sym c.from_vec.ensures) c.requires.opened.fresh in
    let many = subst (λ (hs : List HandleValue). length hs ≡ length (sessions_of script)) (sym c.from_vec.ensures) c.requires.all in
    let done = run-done formats lock plan script given handles sessions.result.transcripts fresh many sessions.ensures.back sessions.ensures.fair sessions.ensures.counts (λ is. (sessions.ensures.kept is).0) in
    let closed = c.close_store-closed.result in
    let Closes : List HandleValue → Type 0 = λ hs. IsClosed formats g.D.Disk g.P.Patterns.refusals plan.mounted core.journal (opening_in lock.start) (length hs) hs closed in
    played formats g.D.Disk g.row.D.coded g.P.Patterns.refusals lock plan core start script handles sessions.result.transcripts closed done
    (subst Closes c.into_vec.ensures (c.close_store-closed.ensures core.journal (journal_is formats g.D.Disk g.row.D.coded g.P.Patterns.refusals lock plan core start)))
