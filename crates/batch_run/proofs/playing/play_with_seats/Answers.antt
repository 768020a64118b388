-- No handle is opened at first. Where one isn't opened, the store is closed with those before it.
use Rattle.std.proofs.Common.{Option, None, sym, subst}
use Rattle.batch_run.proofs.Ending.{fresh-done, journal_is, played}
use Rattle.kdb_handle.specs.Stores.{HasFlusher}
use Rattle.kdb_handle.specs.Story.{Told}
use Rattle.kdb_handle.specs.Views.{lock_of, plan_of}
use Rattle.model_store.specs.Store.{Formats, formats_of}
use Rattle.seat_lock.specs.Known.{Known}
use Rattle.batch_run.proofs.playing.play_with_seats.Goals as goal

pub play_with_handles-requires-clause-flusher : goal.play_with_handles-requires-clause-flusher
play_with_handles-requires-clause-flusher g c κs within =
    subst (λ (kept : Option (Known Told)). HasFlusher (lock_of c.args.store) kept None) (sym c.open_all.ensures.flusher) c.requires.flusher

pub close_store-requires-clause-flusher : goal.close_store-requires-clause-flusher
close_store-requires-clause-flusher g c =
    subst (λ (kept : Option (Known Told)). HasFlusher (lock_of c.args.store) kept None) (sym c.open_all.ensures.flusher) c.requires.flusher

pub returns : goal.returns
returns g c = λ core start.
    let formats : Formats = formats_of g.F.Formats in
    let lock = lock_of c.args.store in
    let plan = plan_of c.args.store in
    let script = c.args.script.now in
    let handles = c.open_all.new.handles.items in
    played formats g.D.Disk g.row.D.coded g.P.Patterns.refusals lock plan core start script handles None c.close_store.result (fresh-done formats lock plan script handles c.in-Err.ensures.opened.fresh)
    (c.close_store.ensures core.journal (journal_is formats g.D.Disk g.row.D.coded g.P.Patterns.refusals lock plan core start))
