-- What was played, and then closed.
use Rattle.std.proofs.Common.{◌≡◌, ◌≤◌, inl, ap, subst, sym, ◌∙◌, arith, rules}
use Rattle.commit_log.specs.Log.{Log}
use Rattle.intent_journal.specs.Opened.{IsFresh}
use Rattle.intent_journal.specs.States.{IsCalm}
use Rattle.kdb_outside.specs.Faults.{HasRisen}
use Rattle.kdb_outside.specs.Frames.{GoesOn}
use Rattle.kdb_outside.proofs.Frames.{GoesOn-then}
use Rattle.kdb_outside.proofs.Rises.{risen_since}
use Rattle.model_crashes.specs.Runs.{files_of}
use Rattle.store_core.specs.declared.cores.Core.{Core}
use Rattle.store_phases.specs.Stores.{IsStore}
use Rattle.store_play.proofs.CauseLemmas.{all_caused_over}
use Rattle.store_play.proofs.RunLemmas.{closed_calm, sound_now}
use Rattle.store_play.proofs.running.run_opened.Goals as goal

pub returns-in-Ok : goal.returns-in-Ok
returns-in-Ok g c = record {
  ran = λ start run stands.
      let played = c.in-Ok.ensures.played start run stands in
      record {
        core = c.play_new-played.new.core;
        played = played;
        history = ap (λ (log : Log). log.commits) c.close-disk.ensures.history;
        reached = c.close-disk.ensures.always start played.last.run played.stands.on_disk;
        now = c.close-disk.ensures.now start played.last.run played.stands.on_disk;
        shown = λ still. c.close-disk.ensures.shown start played.last.run played.stands.on_disk
            (λ risen. still (risen_since played.last.run.faults (g.D.Disk.faults c.play_new-played.new.core.journal.disk) (g.D.Disk.faults c.close-disk.result.disk) played.stands.on_disk.risen risen));
        calm = c.close-disk.ensures.calm start played.last.run played.stands.on_disk;
      };
  sound =
      let is = c.requires.stands in
      let played = c.in-Ok.ensures.played is.0 is.1 is.2 in
      sound_now g.D.Disk c.close-disk.result.disk (files_of played.last.run) played.last.run.doubt (c.close-disk.ensures.now is.0 played.last.run played.stands.on_disk);
  causes =
      let before = c.args.opened.core in
      let core = c.play_new-played.new.core in
      let ended = c.close-disk.result in
      let told : g.P.Patterns.refusals ended.patterns ≡ g.P.Patterns.refusals core.patterns = ap g.P.Patterns.refusals c.close-disk.ensures.patterns in
      all_caused_over (g.D.Disk.faults before.journal.disk) (g.D.Disk.faults before.journal.disk) (g.D.Disk.faults core.journal.disk) (g.D.Disk.faults ended.disk)
      (g.P.Patterns.refusals before.patterns) (g.P.Patterns.refusals before.patterns) (g.P.Patterns.refusals core.patterns) (g.P.Patterns.refusals ended.patterns)
      (omega arith) c.play_new-played.ensures.goes.later c.close-disk.ensures.goes.later (omega arith) c.play_new-played.ensures.later (omega arith) c.in-Ok.answers c.in-Ok.ensures.causes;
  later = subst (λ p. g.P.Patterns.refusals c.args.opened.core.patterns ≤ g.P.Patterns.refusals p) (sym c.close-disk.ensures.patterns) c.play_new-played.ensures.later;
  refused = search rules;
  patterns = search rules;
  reached = search rules;
  still = search rules;
  goes = GoesOn-then g.D.Disk c.args.opened.core.journal.disk c.play_new-played.new.core.journal.disk c.close-disk.result.disk c.play_new-played.ensures.goes c.close-disk.ensures.goes;
}

pub returns : goal.returns
returns g c = record {
  ran = search rules;
  sound =
      let is = c.requires.stands in
      sound_now g.D.Disk c.close-disk.result.disk (files_of is.1) is.1.doubt
      (c.close-disk.ensures.now is.0 is.1 (subst (λ (core : Core g.row.D.Denot g.row.P.Denot). IsStore g.D.Disk is.0 core.journal is.1) (sym c.in-Err.ensures.none) is.2.on_disk));
  causes = search rules;
  later = search rules;
  refused = search rules;
  patterns = c.close-disk.ensures.patterns ∙ ap (λ (core : Core g.row.D.Denot g.row.P.Denot). core.patterns) c.in-Err.ensures.none;
  reached = λ start run stands. c.close-disk.ensures.always start run (subst (λ (core : Core g.row.D.Denot g.row.P.Denot). IsStore g.D.Disk start core.journal run) (sym c.in-Err.ensures.none) stands.on_disk);
  still = λ start run files doubt stands fresh either still calm.
      let core = c.play_new-played.new.core in
      let same = sym c.in-Err.ensures.none in
      let store = subst (λ (k : Core g.row.D.Denot g.row.P.Denot). IsStore g.D.Disk start k.journal run) same stands.on_disk in
      closed_calm g.D.Disk core.journal.disk c.close-disk.result.disk files doubt core.wrote
      (λ unwritten. c.close-disk.ensures.left_alone unwritten (subst (λ (k : Core g.row.D.Denot g.row.P.Denot). IsFresh k.journal) same fresh))
      (λ wrote. c.close-disk.ensures.calm_with start run store (subst (λ (k : Core g.row.D.Denot g.row.P.Denot). ¬ HasRisen (g.D.Disk.faults k.journal.disk) (g.D.Disk.faults c.close-disk.result.disk)) same still) (inl wrote) files doubt either)
      (subst (λ (k : Core g.row.D.Denot g.row.P.Denot). IsCalm (g.D.Disk.seen k.journal.disk) (g.D.Disk.may_leave k.journal.disk) files doubt) same calm);
  goes = subst (λ (core : Core g.row.D.Denot g.row.P.Denot). GoesOn g.D.Disk core.journal.disk c.close-disk.result.disk) c.in-Err.ensures.none c.close-disk.ensures.goes;
}
