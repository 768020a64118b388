-- A step, and the flushes behind it.
use Rattle.std.proofs.Common.{◌≤◌, ap, subst, sym, arith}
use Rattle.kdb_outside.proofs.Frames.{GoesOn-then}
use Rattle.model_store.specs.Store.{formats_of}
use Rattle.store_play.specs.Handles.{places_in, records_in}
use Rattle.store_play.specs.Stages.{stage_of}
use Rattle.store_play.proofs.CauseLemmas.{caused_over}
use Rattle.store_play.proofs.FlushLemmas.{stepped_flushed}
use Rattle.store_play.proofs.playing.turn.Goals as goal

pub returns-clause-stepped : goal.returns-clause-stepped
returns-clause-stepped g c procs opened known world run h =
    stepped_flushed (formats_of g.F.Formats) g.D.Disk c.args.plan.now.mounted procs opened (stage_of c.args.core.now (records_in c.args.handles.now) (places_in c.args.handles.now) known run) c.args.event.now c.step-answer.result
    c.step-answer.new.core c.flush_behind.new.core (records_in c.step-answer.new.handles) (places_in c.step-answer.new.handles) c.flush_behind.ensures (c.step-answer.ensures.stepped procs opened known world run h)

pub returns-clause-goes : goal.returns-clause-goes
returns-clause-goes g c =
    GoesOn-then g.D.Disk c.args.core.now.journal.disk c.step-answer.new.core.journal.disk c.flush_behind.new.core.journal.disk c.step-answer.ensures.goes c.flush_behind.ensures.goes

pub returns-clause-later : goal.returns-clause-later
returns-clause-later g c =
    subst (λ p. g.P.Patterns.refusals c.args.core.now.patterns ≤ g.P.Patterns.refusals p) (sym c.flush_behind.ensures.patterns) c.step-answer.ensures.later

pub returns-clause-cause : goal.returns-clause-cause
returns-clause-cause g c =
    let before = c.args.core.now in
    let mid = c.step-answer.new.core in
    let now = c.flush_behind.new.core in
    caused_over (g.D.Disk.faults before.journal.disk) (g.D.Disk.faults before.journal.disk) (g.D.Disk.faults mid.journal.disk) (g.D.Disk.faults now.journal.disk)
    (g.P.Patterns.refusals before.patterns) (g.P.Patterns.refusals before.patterns) (g.P.Patterns.refusals mid.patterns) (g.P.Patterns.refusals now.patterns)
    (omega arith) c.step-answer.ensures.goes.later c.flush_behind.ensures.goes.later (omega arith) c.step-answer.ensures.later (omega (arith, ap g.P.Patterns.refusals c.flush_behind.ensures.patterns)) c.step-answer.result c.step-answer.ensures.cause
