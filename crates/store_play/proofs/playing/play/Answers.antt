-- Event by event.
use Rattle.std.proofs.Common.{[], refl, ◌∙◌, arith}
use Rattle.std.proofs.lemmas.List.Elements.{All-same}
use Rattle.general_words.proofs.Lists.{at_place}
use Rattle.kdb_outside.proofs.Frames.{GoesOn-then, OnlyReads-goes_on, OnlyReads-none}
use Rattle.model_store.specs.Store.{formats_of}
use Rattle.store_play.specs.Causes.{IsCaused}
use Rattle.store_play.specs.Handles.{places_in, records_in}
use Rattle.store_play.specs.Stages.{stage_of}
use Rattle.store_play.proofs.CauseLemmas.{caused_next}
use Rattle.store_play.proofs.PlayLemmas.{has_played, stood_first, stood_next}
use Rattle.store_play.proofs.playing.play.Goals as goal

pub loop-event-init : goal.loop-event-init
loop-event-init g c = record {
  room = c.in_ok-answers.ensures.exact;
  count = c.in_ok-answers.ensures.len;
  stood = λ procs opened known world run h.
      stood_first (formats_of g.F.Formats) g.D.Disk c.args.plan.now.mounted procs opened (stage_of c.args.core.now (records_in c.args.handles.now) (places_in c.args.handles.now) known run) c.args.events.now
      c.in_ok-answers.answers.items c.args.core.now (records_in c.args.handles.now) (places_in c.args.handles.now) known world run c.in_ok-answers.ensures.items refl h;
  causes =
      All-same (IsCaused (g.D.Disk.faults c.args.core.now.journal.disk) (g.D.Disk.faults c.args.core.now.journal.disk) (g.P.Patterns.refusals c.args.core.now.patterns) (g.P.Patterns.refusals c.args.core.now.patterns))
      c.in_ok-answers.answers.items [] c.in_ok-answers.ensures.items (λ k d lt. absurd (omega arith));
  goes = OnlyReads-goes_on g.D.Disk c.args.core.now.journal.disk c.args.core.now.journal.disk (OnlyReads-none g.D.Disk c.args.core.now.journal.disk);
  later = omega arith;
}

pub turn-answer-requires : goal.turn-answer-requires
turn-answer-requires g c =
    let w = c.requires.holding in
    let stood = c.loop-event.invariant.stood w.procs w.opened w.known w.world w.run w.holds in
    record {
      holding = record { procs = w.procs; opened = w.opened; known = stood.known; world = stood.world; run = stood.run; holds = stood.holds };
    }

pub push_reserved-requires : goal.push_reserved-requires
push_reserved-requires g c =
    omega (arith, c.loop-event.invariant.room, c.loop-event.invariant.count, c.loop-event-test.true)

pub loop-event-preserved : goal.loop-event-preserved
loop-event-preserved g c = record {
  room = c.push_reserved.ensures.capacity ∙ c.loop-event.invariant.room;
  count = omega (arith, c.push_reserved.ensures.len, c.loop-event.invariant.count);
  stood = λ procs opened known world run h.
      stood_next (formats_of g.F.Formats) g.D.Disk c.args.plan.now.mounted procs opened (stage_of c.args.core.now (records_in c.args.handles.now) (places_in c.args.handles.now) known run) c.args.events.now
      c.loop-event.event-index c.event-item.result c.turn-answer.result c.loop-event.answers.items c.push_reserved.new.self.items c.loop-event.core c.turn-answer.new.core
      (records_in c.loop-event.handles) (records_in c.turn-answer.new.handles) (places_in c.loop-event.handles) (places_in c.turn-answer.new.handles)
      (at_place c.args.events.now c.loop-event.event-index c.event-item.result c.loop-event-test.true c.event-item.is) c.push_reserved.ensures.items (c.turn-answer.ensures.stepped procs opened) (c.loop-event.invariant.stood procs opened known world run h);
  causes =
      let so_far = c.loop-event.invariant in
      caused_next (g.D.Disk.faults c.args.core.now.journal.disk) (g.D.Disk.faults c.loop-event.core.journal.disk) (g.D.Disk.faults c.turn-answer.new.core.journal.disk)
      (g.P.Patterns.refusals c.args.core.now.patterns) (g.P.Patterns.refusals c.loop-event.core.patterns) (g.P.Patterns.refusals c.turn-answer.new.core.patterns)
      c.loop-event.answers.items c.push_reserved.new.self.items c.turn-answer.result so_far.goes.later c.turn-answer.ensures.goes.later so_far.later c.turn-answer.ensures.later c.push_reserved.ensures.items
      so_far.causes c.turn-answer.ensures.cause;
  goes = GoesOn-then g.D.Disk c.args.core.now.journal.disk c.loop-event.core.journal.disk c.turn-answer.new.core.journal.disk c.loop-event.invariant.goes c.turn-answer.ensures.goes;
  later = omega (arith, c.loop-event.invariant.later, c.turn-answer.ensures.later);
}

pub returns-clause-played : goal.returns-clause-played
returns-clause-played g c procs opened known world run h =
    has_played (formats_of g.F.Formats) g.D.Disk c.args.plan.now.mounted procs opened (stage_of c.args.core.now (records_in c.args.handles.now) (places_in c.args.handles.now) known run) c.args.events.now
    c.loop-event.event-index c.loop-event.answers.items c.from_vec.result c.loop-event.core (records_in c.loop-event.handles) (places_in c.loop-event.handles) c.loop-event-test.false c.from_vec.ensures
    (c.loop-event.invariant.stood procs opened known world run h)

pub returns-clause-causes : goal.returns-clause-causes
returns-clause-causes g c =
    All-same (IsCaused (g.D.Disk.faults c.args.core.now.journal.disk) (g.D.Disk.faults c.loop-event.core.journal.disk) (g.P.Patterns.refusals c.args.core.now.patterns) (g.P.Patterns.refusals c.loop-event.core.patterns))
    c.from_vec.result c.loop-event.answers.items c.from_vec.ensures c.loop-event.invariant.causes
