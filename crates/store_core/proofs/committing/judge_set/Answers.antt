-- The keys after the set are judged, by the mounted files of the plan, and by a history that only became ready to be
-- asked for names.
use Rattle.std.proofs.Common.{◌≡◌, List, None, sym, subst}
use Rattle.commit_log.specs.Log.{Log}
use Rattle.model_maps.specs.KeyMap.{KeyMap}
use Rattle.model_store.specs.Rules.{has_risen}
use Rattle.model_store.specs.Store.{formats_of, store_of}
use Rattle.model_store.specs.Verdicts.{IsLate, conflict}
use Rattle.mounted_files.specs.declared.files.MountedFile.{MountedFile}
use Rattle.store_verdict.specs.LateView.{late_of}
use Rattle.store_verdict.specs.PreparedView.{prepared_of}
use Rattle.store_verdict.specs.Renewing.{BringsTexts, MayRenew}
use Rattle.store_core.proofs.committing.judge_set.Goals as goal

pub judge-requires : goal.judge-requires
judge-requires g c procs free =
    subst (λ (files : List MountedFile). MayRenew (formats_of g.F.Formats) (store_of files procs) c.in_ok-keys.keys c.args.prepared.now.touched) (sym c.mounted.ensures)
    (subst (λ (keys : KeyMap). MayRenew (formats_of g.F.Formats) (store_of c.args.plan.now.mounted procs) keys c.args.prepared.now.touched) (sym c.in_ok-keys.ensures)
    (c.requires procs (subst (λ (log : Log). conflict (store_of c.args.plan.now.mounted procs) log.commits (prepared_of c.args.prepared.now) ≡ None) c.make_ready.ensures
    (subst (λ (files : List MountedFile). conflict (store_of files procs) c.make_ready.new.history.commits (prepared_of c.args.prepared.now) ≡ None) c.mounted.ensures free))))

pub returns-clause-late : goal.returns-clause-late
returns-clause-late g c procs =
    let risen = has_risen (g.P.Patterns.refusals c.args.patterns.now) (g.P.Patterns.refusals c.judge.new.patterns) in
    subst (λ (log : Log). IsLate (formats_of g.F.Formats) (store_of c.args.plan.now.mounted procs) log.commits c.args.keys.now (prepared_of c.args.prepared.now) (late_of risen c.in_ok-late.late)) c.make_ready.ensures
    (subst (λ (files : List MountedFile). IsLate (formats_of g.F.Formats) (store_of files procs) c.make_ready.new.history.commits c.args.keys.now (prepared_of c.args.prepared.now) (late_of risen c.in_ok-late.late)) c.mounted.ensures
    (c.in_ok-late.ensures.late procs c.args.keys.now c.in_ok-keys.ensures))

pub returns-clause-renewed : goal.returns-clause-renewed
returns-clause-renewed g c procs =
    subst (λ (files : List MountedFile). BringsTexts (formats_of g.F.Formats) (store_of files procs) c.in_ok-keys.keys c.args.prepared.now.touched c.in_ok-late.late) c.mounted.ensures
    (c.in_ok-late.ensures.renewed procs)
