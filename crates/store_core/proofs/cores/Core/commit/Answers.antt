-- Each exit is one of the two ways in which a commit ends.
use Rattle.std.proofs.Common.{ℕ, ◌<◌, ◌≤◌, Bool, All, List, [], ◌∷◌, ◌++◌, length, map as over, Ok, Err, refl, sym, subst}
use Rattle.commit_log.specs.CommitView as log
use Rattle.commit_log.specs.Log.{Log}
use Rattle.model_history.specs.History.{history_weight, heaviest_history}
use Rattle.model_maps.specs.KeyMap.{KeyMap}
use Rattle.model_store.specs.Rules.{has_risen}
use Rattle.model_store.specs.Store.{Formats, formats_of, store_of}
use Rattle.model_store.specs.Verdicts.{IsLate}
use Rattle.mounted_files.specs.declared.files.MountedFile.{MountedFile}
use Rattle.set_split.specs.declared.parts.Part.{Part}
use Rattle.store_core.specs.Entering.{EntersHistory}
use Rattle.store_core.specs.Heads.{names_at}
use Rattle.store_core.specs.declared.committing.CommitFault.TheVariants as fault
use Rattle.store_core.specs.declared.committing.Done.TheVariants as done
use Rattle.store_core.specs.declared.cores.Core.{Core}
use Rattle.store_core.proofs.AnswerLemmas.{conflict_within, is_entry, large_within, may_renew, not_full, own_count, places_within}
use Rattle.store_core.proofs.CommitEnds.{commits_conflict, commits_entry, commits_nothing, commits_too_large}
use Rattle.store_phases.specs.Phases.{IsOfRun}
use Rattle.store_verdict.specs.LateView.{late_of}
use Rattle.store_verdict.specs.PreparedView.{prepared_of}
use Rattle.store_verdict.specs.RecordView.{places_of, record_of}
use Rattle.store_verdict.specs.Renewing.{BringsTexts}
use Rattle.store_verdict.specs.declared.judging.Late.{Late}
use Rattle.store_verdict.specs.declared.prepared.Prepared.{Prepared}
use Rattle.store_core.proofs.cores.Core.commit.Goals as goal

-- what the history decides of a set, by the store of some files
abbrev Decided : {D P : Type 0} → Formats → List MountedFile → Core D P → Prepared → Bool → Late → Type 0
Decided formats files core set risen late =
    (procs : ℕ → KeyMap) → IsLate formats (store_of files procs) core.history.commits core.keys (prepared_of set) (late_of risen late)

pub returns-in-Err : goal.returns-in-Err
returns-in-Err g c =
    let files : List MountedFile = c.args.plan.now.mounted in
    let core = c.args.self.now in
    commits_nothing (formats_of g.F.Formats) g.D.Disk g.P.Patterns.refusals files core c.judge_set.new.patterns c.args.rec.now c.args.prepared c.in-Err.ensures.later c.judge_set.new.history c.in-Err.ensures.same (Err fault.Memory) refl (λ procs. tt)

pub judge_set-requires : goal.judge_set-requires
judge_set-requires g c procs free =
    let files : List MountedFile = c.args.plan.now.mounted in
    let ready = c.requires.ready in
    let may = may_renew (formats_of g.F.Formats) (store_of files ready.procs) c.args.self.now ready.records ready.made ready.world ready.number c.args.rec.now c.args.prepared ready.belongs free in
    record { storable = may.storable; short = may.short; light = may.light }

pub conflict-requires : goal.conflict-requires
conflict-requires g c =
    let files : List MountedFile = c.args.plan.now.mounted in
    let core = c.args.self.now in
    let ready = c.requires.ready in
    let late = subst (Decided (formats_of g.F.Formats) files core c.args.prepared (has_risen (g.P.Patterns.refusals core.patterns) (g.P.Patterns.refusals c.judge_set.new.patterns))) c.in-Conflict.is c.in-Ok.ensures.late in
    conflict_within (formats_of g.F.Formats) (store_of files ready.procs) core ready.records ready.made ready.world ready.number c.args.rec.now c.args.prepared ready.belongs c.in-Conflict.mount c.in-Conflict.by (late ready.procs)

pub returns-in-Conflict : goal.returns-in-Conflict
returns-in-Conflict g c =
    let files : List MountedFile = c.args.plan.now.mounted in
    let core = c.args.self.now in
    let late = subst (Decided (formats_of g.F.Formats) files core c.args.prepared (has_risen (g.P.Patterns.refusals core.patterns) (g.P.Patterns.refusals c.judge_set.new.patterns))) c.in-Conflict.is c.in-Ok.ensures.late in
    commits_conflict (formats_of g.F.Formats) g.D.Disk g.P.Patterns.refusals files core c.judge_set.new.patterns c.args.rec.now c.args.prepared c.in-Ok.ensures.later c.judge_set.new.history c.in-Ok.ensures.same
    c.in-Conflict.mount c.in-Conflict.by c.len-front.result c.conflict.result c.len-front.ensures late c.conflict.ensures

pub too_large-requires : goal.too_large-requires
too_large-requires g c =
    let files : List MountedFile = c.args.plan.now.mounted in
    let core = c.args.self.now in
    let ready = c.requires.ready in
    let late = subst (Decided (formats_of g.F.Formats) files core c.args.prepared (has_risen (g.P.Patterns.refusals core.patterns) (g.P.Patterns.refusals c.judge_set.new.patterns))) c.in-TooLarge.is c.in-Ok.ensures.late in
    large_within (formats_of g.F.Formats) (store_of files ready.procs) core ready.records ready.made ready.world ready.number c.args.rec.now c.args.prepared ready.belongs c.in-TooLarge.mount c.in-TooLarge.bytes (late ready.procs)

pub returns-in-TooLarge : goal.returns-in-TooLarge
returns-in-TooLarge g c =
    let files : List MountedFile = c.args.plan.now.mounted in
    let core = c.args.self.now in
    let late = subst (Decided (formats_of g.F.Formats) files core c.args.prepared (has_risen (g.P.Patterns.refusals core.patterns) (g.P.Patterns.refusals c.judge_set.new.patterns))) c.in-TooLarge.is c.in-Ok.ensures.late in
    commits_too_large (formats_of g.F.Formats) g.D.Disk g.P.Patterns.refusals files core c.judge_set.new.patterns c.args.rec.now c.args.prepared c.in-Ok.ensures.later c.judge_set.new.history c.in-Ok.ensures.same
    c.in-TooLarge.mount c.in-TooLarge.bytes c.len-front.result c.too_large.result c.len-front.ensures late c.too_large.ensures

pub returns-in-Same : goal.returns-in-Same
returns-in-Same g c =
    let files : List MountedFile = c.args.plan.now.mounted in
    let core = c.args.self.now in
    let late = subst (Decided (formats_of g.F.Formats) files core c.args.prepared (has_risen (g.P.Patterns.refusals core.patterns) (g.P.Patterns.refusals c.judge_set.new.patterns))) c.in-Same.is c.in-Ok.ensures.late in
    commits_nothing (formats_of g.F.Formats) g.D.Disk g.P.Patterns.refusals files core c.judge_set.new.patterns c.args.rec.now c.args.prepared c.in-Ok.ensures.later c.judge_set.new.history c.in-Ok.ensures.same
    (Ok (done.Same c.len-front.result c.in-Same.left_aside)) refl (λ procs. (c.len-front.ensures, late procs))

pub returns-in-Invalid : goal.returns-in-Invalid
returns-in-Invalid g c =
    let files : List MountedFile = c.args.plan.now.mounted in
    let core = c.args.self.now in
    let late = subst (Decided (formats_of g.F.Formats) files core c.args.prepared (has_risen (g.P.Patterns.refusals core.patterns) (g.P.Patterns.refusals c.judge_set.new.patterns))) c.in-Invalid.is c.in-Ok.ensures.late in
    commits_nothing (formats_of g.F.Formats) g.D.Disk g.P.Patterns.refusals files core c.judge_set.new.patterns c.args.rec.now c.args.prepared c.in-Ok.ensures.later c.judge_set.new.history c.in-Ok.ensures.same
    (Err (fault.Invalid c.in-Invalid.violation c.len-front.result)) refl (λ procs. (c.len-front.ensures, late procs))

pub returns-in-DatabaseFull : goal.returns-in-DatabaseFull
returns-in-DatabaseFull g c =
    let files : List MountedFile = c.args.plan.now.mounted in
    let core = c.args.self.now in
    let late = subst (Decided (formats_of g.F.Formats) files core c.args.prepared (has_risen (g.P.Patterns.refusals core.patterns) (g.P.Patterns.refusals c.judge_set.new.patterns))) c.in-DatabaseFull.is c.in-Ok.ensures.late in
    commits_nothing (formats_of g.F.Formats) g.D.Disk g.P.Patterns.refusals files core c.judge_set.new.patterns c.args.rec.now c.args.prepared c.in-Ok.ensures.later c.judge_set.new.history c.in-Ok.ensures.same
    (Err (fault.DatabaseFull c.in-DatabaseFull.weight c.len-front.result)) refl (λ procs. (c.len-front.ensures, late procs))

pub returns-in-HistoryFull : goal.returns-in-HistoryFull
returns-in-HistoryFull g c =
    let files : List MountedFile = c.args.plan.now.mounted in
    let core = c.args.self.now in
    let late = subst (Decided (formats_of g.F.Formats) files core c.args.prepared (has_risen (g.P.Patterns.refusals core.patterns) (g.P.Patterns.refusals c.judge_set.new.patterns))) c.in-HistoryFull.is c.in-Ok.ensures.late in
    commits_nothing (formats_of g.F.Formats) g.D.Disk g.P.Patterns.refusals files core c.judge_set.new.patterns c.args.rec.now c.args.prepared c.in-Ok.ensures.later c.judge_set.new.history c.in-Ok.ensures.same
    (Err (fault.HistoryFull c.in-HistoryFull.weight c.len-front.result)) refl (λ procs. (c.len-front.ensures, late procs))

-- the texts that the judging made anew
abbrev Brings : Formats → List MountedFile → KeyMap → Prepared → Late → Type 0
Brings formats files keys set late =
    (procs : ℕ → KeyMap) → BringsTexts formats (store_of files procs) keys set.touched late

pub enter-requires : goal.enter-requires
enter-requires g c =
    let files : List MountedFile = c.args.plan.now.mounted in
    let core = c.args.self.now in
    let ready = c.requires.ready in
    let commit = log.commit_of c.in-Commits.commit in
    let late = subst (Decided (formats_of g.F.Formats) files core c.args.prepared (has_risen (g.P.Patterns.refusals core.patterns) (g.P.Patterns.refusals c.judge_set.new.patterns))) c.in-Commits.is c.in-Ok.ensures.late in
    let brings = subst (Brings (formats_of g.F.Formats) files c.in-Ok.judged.keys c.args.prepared) c.in-Commits.is c.in-Ok.ensures.renewed in
    record {
      entry =
          subst (λ (set : Prepared). IsOfRun (names_at (over (λ (file : MountedFile). file.mount) files)) set.texts) (sym c.with_texts-prepared.ensures)
          (is_entry (formats_of g.F.Formats) (store_of files ready.procs) core ready.records ready.made ready.world ready.number c.args.rec.now c.args.prepared ready.belongs commit c.in-Commits.left_aside (late ready.procs)
          c.in-Ok.judged.keys c.in-Ok.ensures.keys c.in-Commits.renewed (brings ready.procs));
      light =
          subst (λ (log : Log). history_weight (log.commits ++ commit ∷ []) ≤ heaviest_history) (sym c.in-Ok.ensures.same)
          (not_full (formats_of g.F.Formats) (store_of files ready.procs) core ready.records ready.made ready.world ready.number c.args.rec.now c.args.prepared ready.belongs commit c.in-Commits.left_aside (late ready.procs));
      count =
          subst (λ (log : Log). (record_of c.args.rec.now).committed ≤ length log.commits) (sym c.in-Ok.ensures.same)
          (own_count (formats_of g.F.Formats) (store_of files ready.procs) core ready.records ready.made ready.world ready.number c.args.rec.now c.args.prepared ready.belongs);
      places =
          subst (λ (set : Prepared). All (λ (part : Part). part.mount < places_of c.args.rec.now) set.wanted) (sym c.with_texts-prepared.ensures)
          (places_within (formats_of g.F.Formats) (store_of files ready.procs) core ready.records ready.made ready.world ready.number c.args.rec.now c.args.prepared ready.belongs commit c.in-Commits.left_aside (late ready.procs)
          c.in-Ok.judged.keys c.in-Ok.ensures.keys c.in-Commits.renewed (brings ready.procs));
    }

pub returns-in-Commits : goal.returns-in-Commits
returns-in-Commits g c =
    let files : List MountedFile = c.args.plan.now.mounted in
    let core = c.args.self.now in
    let moved : Core g.row.D.Denot g.row.P.Denot = record core { patterns = c.judge_set.new.patterns; history = c.judge_set.new.history } in
    let commit = log.commit_of c.in-Commits.commit in
    let late = subst (Decided (formats_of g.F.Formats) files core c.args.prepared (has_risen (g.P.Patterns.refusals core.patterns) (g.P.Patterns.refusals c.judge_set.new.patterns))) c.in-Commits.is c.in-Ok.ensures.late in
    let brings = subst (Brings (formats_of g.F.Formats) files c.in-Ok.judged.keys c.args.prepared) c.in-Commits.is c.in-Ok.ensures.renewed in
    commits_entry (formats_of g.F.Formats) g.D.Disk g.P.Patterns.refusals files core c.judge_set.new.patterns c.args.rec.now c.args.prepared c.in-Ok.ensures.later c.judge_set.new.history c.in-Ok.ensures.same
    commit c.in-Commits.left_aside late c.in-Ok.judged.keys c.in-Ok.ensures.keys c.in-Commits.renewed brings c.enter.new.self c.enter.new.rec c.enter.result
    (subst (λ (set : Prepared). EntersHistory g.D.Disk (over (λ (file : MountedFile). file.mount) files) commit c.in-Commits.left_aside c.in-Ok.judged.keys set moved c.enter.new.self c.args.rec.now c.enter.new.rec c.enter.result)
    c.with_texts-prepared.ensures c.enter.ensures)
