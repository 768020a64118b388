-- From the opening to the close.
use Rattle.std.proofs.Common.{◌≡◌, ℕ, ◌≤◌, List, [], Some, None, refl, ap, subst, inl, ◌∙◌, rules}
use Rattle.std.proofs.lemmas.Result.{IfErr-weaker, IfOk-weaker}
use Rattle.kdb_outside.proofs.Frames.{GoesOn-then}
use Rattle.intent_journal.specs.Opened.{opened_files}
use Rattle.intent_journal.specs.Outcomes.{HasOnly}
use Rattle.journal_steps.specs.Outcomes.{IsEither}
use Rattle.model_crashes.specs.Runs.{Run, new_run}
use Rattle.model_crashes.proofs.Moments.{only_follows}
use Rattle.model_files.specs.Files.{table_files}
use Rattle.model_store.specs.Store.{formats_of}
use Rattle.mount_table.specs.Table.{own_mount}
use Rattle.store_play.specs.Handles.{procs_at}
use Rattle.store_play.specs.Ran.{WasOrReached, disk_of, opened_run, store_with}
use Rattle.store_play.proofs.CauseLemmas.{caused_behind}
use Rattle.store_play.proofs.RunLemmas.{memory_is_no_fault, memory_is_no_journal, memory_is_no_version, memory_refuses, ran_files, reached_files, refused_calm, sound_since}
use Rattle.store_play.proofs.running.run.Goals as goal

pub run_opened-requires-clause-stands : goal.run_opened-requires-clause-stands
run_opened-requires-clause-stands g c =
    let calm = c.requires.calm in
    let begun = c.in-Ok.ensures.stands c.requires.tells calm.0 calm.1 calm.2 in
    let names = table_files (store_with c.in-Ok.opened.plan.mounted c.args.procs.now) in
    (c.in-Ok.opened.core.journal.disk, opened_run g.D.Disk c.args.disk begun.later names, begun.stands (procs_at c.args.procs.now))

pub returns-in-Ok : goal.returns-in-Ok
returns-in-Ok g c = record {
  sound = search rules;
  ran = λ files doubt calm.
      let begun = c.in-Ok.ensures.stands c.requires.tells files doubt calm in
      let first = opened_run g.D.Disk c.args.disk begun.later in
      let names = table_files (store_with c.in-Ok.opened.plan.mounted c.args.procs.now) in
      IfOk-weaker c.run_opened.result _ _ (λ ran has. (begun.later, begun.may_be, has))
      (ran_files (formats_of g.F.Formats) g.F.Formats.reads g.F.Formats.is_bad_at g.D.Disk c.in-Ok.opened.plan.mounted c.args.procs.now c.args.places c.args.events.now c.args.disk c.in-Ok.opened.core.journal.disk files doubt first
      c.in-Ok.ensures.goes.moment (c.in-Ok.ensures.any_moment c.requires.tells files doubt calm) c.run_opened.result
      (c.in-Ok.ensures.opened c.requires.tells files doubt calm) (c.run_opened.ensures.ran c.in-Ok.opened.core.journal.disk (first names) (begun.stands (procs_at c.args.procs.now))));
  own = λ files doubt calm same.
      let first : List (List ℕ) → Run = λ names. new_run names files (g.D.Disk.faults c.args.disk) doubt in
      let names = table_files (store_with c.in-Ok.opened.plan.mounted c.args.procs.now) in
      ran_files (formats_of g.F.Formats) g.F.Formats.reads g.F.Formats.is_bad_at g.D.Disk c.in-Ok.opened.plan.mounted c.args.procs.now c.args.places c.args.events.now c.args.disk c.in-Ok.opened.core.journal.disk files doubt first
      c.in-Ok.ensures.goes.moment (c.in-Ok.ensures.any_moment c.requires.tells files doubt calm) c.run_opened.result
      (c.in-Ok.ensures.opened c.requires.tells files doubt calm) (c.run_opened.ensures.ran c.in-Ok.opened.core.journal.disk (first names) (c.in-Ok.ensures.own c.requires.tells files doubt calm same (procs_at c.args.procs.now)));
  causes =
      let before = c.in-Ok.opened.core in
      let told : g.P.Patterns.refusals before.patterns ≡ g.P.Patterns.refusals c.args.patterns = ap g.P.Patterns.refusals c.in-Ok.ensures.patterns in
      caused_behind g.D.Disk g.P.Patterns.refusals c.args.disk before.journal.disk c.args.patterns before.patterns c.run_opened.result c.in-Ok.ensures.goes.later told c.run_opened.ensures.goes c.run_opened.ensures.later c.run_opened.ensures.causes;
  later = IfOk-weaker c.run_opened.result _ _ (λ ran later. subst (λ p. g.P.Patterns.refusals p ≤ g.P.Patterns.refusals ran.patterns) c.in-Ok.ensures.patterns later) c.run_opened.ensures.later;
  refused = λ files doubt calm.
      IfErr-weaker c.run_opened.result _ _ (λ refused is. memory_refuses g.F.Formats.reads g.F.Formats.is_bad_at (opened_files (g.D.Disk.seen c.args.disk) own_mount.file) refused.fault is) c.run_opened.ensures.refused;
  calm = IfErr-weaker c.run_opened.result _ _ (λ refused is. (λ at. memory_is_no_journal refused.fault at is, λ version. memory_is_no_version refused.fault version is)) c.run_opened.ensures.refused;
  cause = IfErr-weaker c.run_opened.result _ _ (λ refused is disk. absurd (memory_is_no_fault refused.fault is disk)) c.run_opened.ensures.refused;
  patterns = IfErr-weaker c.run_opened.result _ _ (λ refused same. same ∙ c.in-Ok.ensures.patterns) c.run_opened.ensures.patterns;
  calm_still = λ files doubt calm.
      let start = c.in-Ok.opened.core.journal.disk in
      let begun = c.in-Ok.ensures.stands c.requires.tells files doubt calm in
      let first : Run = opened_run g.D.Disk c.args.disk begun.later (table_files (store_with c.in-Ok.opened.plan.mounted c.args.procs.now)) in
      refused_calm g.D.Disk c.args.disk start c.run_opened.result files doubt c.in-Ok.ensures.goes c.run_opened.ensures.goes (c.in-Ok.ensures.calm_still c.requires.tells files doubt calm)
      (c.run_opened.ensures.still start first files doubt (begun.stands (procs_at c.args.procs.now)) c.in-Ok.ensures.fresh (c.in-Ok.ensures.files c.requires.tells files doubt calm));
  any_moment = λ files doubt calm.
      let begun = c.in-Ok.ensures.stands c.requires.tells files doubt calm in
      let first : Run = opened_run g.D.Disk c.args.disk begun.later (table_files (store_with c.in-Ok.opened.plan.mounted c.args.procs.now)) in
      IfErr-weaker c.run_opened.result _ _ (λ refused only. (begun.later, begun.may_be, λ names. only))
      (reached_files g.D.Disk c.args.disk c.in-Ok.opened.core.journal.disk files doubt first c.in-Ok.ensures.goes.moment (c.in-Ok.ensures.any_moment c.requires.tells files doubt calm) c.run_opened.result
      (c.run_opened.ensures.reached c.in-Ok.opened.core.journal.disk first (begun.stands (procs_at c.args.procs.now))));
  own_any_moment = λ files doubt calm same.
      let first : Run = new_run (table_files (store_with c.in-Ok.opened.plan.mounted c.args.procs.now)) files (g.D.Disk.faults c.args.disk) doubt in
      IfErr-weaker c.run_opened.result _ _ (λ refused only names. only)
      (reached_files g.D.Disk c.args.disk c.in-Ok.opened.core.journal.disk files doubt first c.in-Ok.ensures.goes.moment (c.in-Ok.ensures.any_moment c.requires.tells files doubt calm) c.run_opened.result
      (c.run_opened.ensures.reached c.in-Ok.opened.core.journal.disk first (c.in-Ok.ensures.own c.requires.tells files doubt calm same (procs_at c.args.procs.now))));
  goes = GoesOn-then g.D.Disk c.args.disk c.in-Ok.opened.core.journal.disk (disk_of c.run_opened.result) c.in-Ok.ensures.goes c.run_opened.ensures.goes;
}

pub returns-in-Err : goal.returns-in-Err
returns-in-Err g c = record {
  sound =
      let calm = c.requires.calm in
      sound_since g.D.Disk c.args.disk c.in-Err.refused.disk calm.0 calm.1 c.requires.tells c.in-Err.ensures.goes (c.in-Err.ensures.any_moment c.requires.tells calm.0 calm.1 calm.2);
  ran = search rules;
  own = search rules;
  causes = search rules;
  later = search rules;
  refused = λ files doubt calm. c.in-Err.ensures.refused c.requires.tells files doubt calm;
  calm =
      let calm = c.requires.calm in
      let none = c.in-Err.ensures.calm c.requires.tells calm.0 calm.1 calm.2 in
      (λ at is. none.0 at (ap Some is), λ version is. none.1 version (ap Some is));
  cause = λ is. c.in-Err.ensures.cause (ap Some is);
  patterns = search rules;
  calm_still = λ files doubt calm. c.in-Err.ensures.calm_still c.requires.tells files doubt calm;
  any_moment = λ files doubt calm.
      let first : Run = opened_run g.D.Disk c.args.disk None [] in (
        None,
        λ some. refl,
        λ names. only_follows g.D.Disk c.args.disk c.in-Err.refused.disk (HasOnly (IsEither files doubt)) (WasOrReached files doubt first) (λ image held. inl held) (c.in-Err.ensures.any_moment c.requires.tells files doubt calm),
      );
  own_any_moment = λ files doubt calm same names.
      let first : Run = new_run names files (g.D.Disk.faults c.args.disk) doubt in
      only_follows g.D.Disk c.args.disk c.in-Err.refused.disk (HasOnly (IsEither files doubt)) (WasOrReached files doubt first) (λ image held. inl held) (c.in-Err.ensures.any_moment c.requires.tells files doubt calm);
  goes = search rules;
}
