-- The two ways in which a commit of a set ends: nothing is written, or the set enters the history.
use Rattle.std.proofs.Common.{◌≡◌, ℕ, ◌≤◌, Bool, true, false, true≢false, List, length, map as over, Option, Result, Ok, Err, refl, sym, ap, subst, ◌∙◌}
use Rattle.kdb_outside.specs.declared.disks.Disk.{Ghosts}
use Rattle.kdb_outside.specs.Faults.{HasRisen}
use Rattle.kdb_outside.specs.Frames.{GoesOn}
use Rattle.kdb_outside.proofs.Frames.{OnlyReads-none, OnlyReads-goes_on}
use Rattle.commit_log.specs.Log.{Log}
use Rattle.intent_journal.specs.Journal.{JournalValue}
use Rattle.journal_steps.specs.Moments.{LeavesOnly}
use Rattle.journal_codec.specs.declared.files.FileText.{FileText}
use Rattle.journal_codec.specs.Header.{header_bytes}
use Rattle.model_crashes.specs.Runs.{IsAmid, files_of}
use Rattle.model_files.specs.Texts.{entry_of}
use Rattle.model_history.specs.Changes.{after}
use Rattle.model_history.specs.History as past
use Rattle.model_maps.specs.KeyMap.{KeyMap, no_keys}
use Rattle.model_specified.specs.declared.violations.Violation.{Violation}
use Rattle.model_store.specs.Rules.{has_risen}
use Rattle.model_store.specs.Sets as sets
use Rattle.model_store.specs.Store.{Formats, store_of}
use Rattle.model_store.specs.Verdicts as verdict
use Rattle.model_store.specs.Verdicts.{IsLate, Late, commit_of}
use Rattle.model_store.proofs.Judged.{is_committed}
use Rattle.model_store.proofs.OneVerdict.{breach-caused}
use Rattle.model_store.proofs.Risen.{has_risen-Decides}
use Rattle.mount_table.specs.declared.mounts.Mount.{Mount}
use Rattle.mounted_files.specs.declared.files.MountedFile.{MountedFile}
use Rattle.store_core.specs.Answers.{IsConflict, IsJudged, IsTooLarge, has_written}
use Rattle.store_core.specs.Commits.{CommitsSet}
use Rattle.store_core.specs.Entering.{EntersHistory, IsEntered}
use Rattle.store_core.specs.Frames.{IsUnwritten}
use Rattle.store_core.specs.Heads.{names_at}
use Rattle.store_core.specs.Renewed.{with_texts}
use Rattle.store_core.specs.declared.committing.CommitFault.{CommitFault}
use Rattle.store_core.specs.declared.committing.CommitFault.TheVariants as fault
use Rattle.store_core.specs.declared.committing.Done.{Done}
use Rattle.store_core.specs.declared.cores.Core.{Core}
use Rattle.store_core.proofs.AnswerLemmas.{matched, made_unwritten, made_entered, answered_unwritten, answered_entered, texts_are}
use Rattle.store_core.proofs.CommitLemmas.{nothing_stored}
use Rattle.store_phases.specs.Phases.{IsOfRun}
use Rattle.store_verdict.specs.PreparedView.{prepared_of}
use Rattle.store_verdict.specs.Renewing.{AreRenewed}
use Rattle.store_verdict.specs.declared.prepared.Prepared.{Prepared}
use Rattle.store_verdict.specs.declared.records.Record.{Record}

-- the header of some mounts is that of a run under their names, and an entry of theirs is one of that run
pub header_under : (mounts : List Mount) (names : List (List ℕ)) (header : List ℕ)
    → header ≡ header_bytes (names_at mounts) → names ≡ names_at mounts → header ≡ header_bytes names
header_under mounts names header is same = is ∙ ap header_bytes (sym same)

pub entry_under : (mounts : List Mount) (names : List (List ℕ)) (files : List FileText)
    → IsOfRun (names_at mounts) files → names ≡ names_at mounts → IsOfRun names files
entry_under mounts names files is same = subst (λ (ns : List (List ℕ)). IsOfRun ns files) (sym same) is

-- where memory is wanting before the disk is touched, nothing enters
pub enters_nothing : {D P : Type 0} (g : Ghosts D) (mounts : List Mount) (commit : past.Commit) (aside : ℕ)
    (keys : KeyMap) (set : Prepared) (old new : Core D P) (rec : Record) (result : Result Done CommitFault)
    → result ≡ Err fault.Memory → IsUnwritten old new
    → new.patterns ≡ old.patterns → EntersHistory g mounts commit aside keys set old new rec rec result
enters_nothing {D} g mounts commit aside keys set old new rec result memory still patterns = record {
  entered = subst (IsEntered g mounts commit aside keys set old new rec rec) (sym memory) (refl, still);
  any_moment = λ opened run holds.
      subst (λ (j : JournalValue D). LeavesOnly g old.journal.disk j.disk (IsAmid (files_of run) run.doubt set.texts)) (sym still.journal) (nothing_stored g opened old.journal run set.texts holds.store);
  start = still.start;
  patterns = patterns;
  goes = subst (λ (j : JournalValue D). GoesOn g old.journal.disk j.disk) (sym still.journal) (OnlyReads-goes_on g old.journal.disk old.journal.disk (OnlyReads-none g old.journal.disk));
  handle = refl;
  places = refl;
  proc = refl;
}

module _ (formats : Formats) {D P : Type 0} (g : Ghosts D) (refusals : P → ℕ) (files : List MountedFile) (core : Core D P) (patterns : P) (rec : Record) (prepared : Prepared) (later : refusals core.patterns ≤ refusals patterns) (history : Log) (same_history : history ≡ core.history) where
  abbrev set : sets.Prepared
  set = prepared_of prepared

  abbrev risen : Bool
  risen = has_risen (refusals core.patterns) (refusals patterns)

  -- some keys of the handles in `proc`
  abbrev none_of : ℕ → KeyMap
  none_of r = no_keys

  -- what the history decides, by the store of the files
  abbrev Decides : Late → Type 0
  Decides late = (procs : ℕ → KeyMap) → IsLate formats (store_of files procs) core.history.commits core.keys set late

  abbrev Judges : Bool → Result Done CommitFault → Type 0
  Judges rose result =
      (procs : ℕ → KeyMap) → IsJudged formats (store_of files procs) rose core.history.commits core.keys set result

  -- the matcher alone moved, and the history may be ready to be asked for names
  abbrev moved : Core D P
  moved = record core { patterns = patterns; history = history }

  pub commits_nothing : (result : Result Done CommitFault) → has_written result ≡ false → Judges risen result
      → CommitsSet formats g refusals files core moved rec rec prepared result
  commits_nothing result none judged =
      let still : IsUnwritten core moved = matched core patterns history same_history in
      record {
        judged = judged;
        made = λ procs records made world p b. made_unwritten formats (store_of files procs) core records made world p rec prepared b moved still risen result none (judged procs);
        committed = λ procs opened records made world run p b.
            answered_unwritten formats (store_of files procs) core records made world p rec prepared b.here g opened run b.on_disk moved refl rec risen still result none
            (made_unwritten formats (store_of files procs) core records made world p rec prepared b.here moved still risen result none (judged procs));
        any_moment = λ procs opened records made world run p b. nothing_stored g opened core.journal run (entry_of formats (store_of files procs) core.keys (commit_of set)) b.on_disk;
        start = refl;
        goes = OnlyReads-goes_on g core.journal.disk core.journal.disk (OnlyReads-none g core.journal.disk);
        cause = λ front is. absurd (true≢false (sym (ap has_written is) ∙ none));
        refused = λ violation front is six short.
            (has_risen-Decides (refusals core.patterns) (refusals patterns)).0
            (breach-caused formats (store_of files none_of) core.history.commits core.keys set violation risen (subst (Judges risen) is judged none_of).1 six short);
        later = later;
        unwritten = λ is. still;
        wrote = λ yes. absurd (true≢false (sym yes ∙ none));
        handle = refl;
        places = refl;
        proc = refl;
      }

  -- a conflict, or want of memory for its name
  pub commits_conflict : (m by front : ℕ) (why : CommitFault) → front ≡ length core.history.commits
      → Decides (verdict.Conflict m by) → IsConflict (over (λ file. file.mount) files) m by front why
      → CommitsSet formats g refusals files core moved rec rec prepared (Err why)
  commits_conflict m by front fault.Memory same is conflict = commits_nothing (Err fault.Memory) refl (λ procs. tt)
  commits_conflict m by front (fault.Conflict mount number found) same is conflict =
      commits_nothing (Err (fault.Conflict mount number found)) refl
      (λ procs. (m, conflict.0, conflict.2 ∙ same, subst (λ n. IsLate formats (store_of files procs) core.history.commits core.keys set (verdict.Conflict m n)) (sym conflict.1) (is procs)))
  commits_conflict m by front (fault.FileTooLarge mount bytes found) same is conflict = absurd conflict
  commits_conflict m by front (fault.Invalid violation found) same is conflict = absurd conflict
  commits_conflict m by front (fault.DatabaseFull weight found) same is conflict = absurd conflict
  commits_conflict m by front (fault.HistoryFull weight found) same is conflict = absurd conflict
  commits_conflict m by front (fault.DiskFault found) same is conflict = absurd conflict

  -- too large a file, or want of memory for the name of its mount
  pub commits_too_large : (m bytes front : ℕ) (why : CommitFault) → front ≡ length core.history.commits
      → Decides (verdict.TooLarge m bytes) → IsTooLarge (over (λ file. file.mount) files) m bytes front why
      → CommitsSet formats g refusals files core moved rec rec prepared (Err why)
  commits_too_large m bytes front fault.Memory same is large = commits_nothing (Err fault.Memory) refl (λ procs. tt)
  commits_too_large m bytes front (fault.FileTooLarge mount size found) same is large =
      commits_nothing (Err (fault.FileTooLarge mount size found)) refl
      (λ procs. (m, large.0, large.2 ∙ same, subst (λ n. IsLate formats (store_of files procs) core.history.commits core.keys set (verdict.TooLarge m n)) (sym large.1) (is procs)))
  commits_too_large m bytes front (fault.Conflict mount by found) same is large = absurd large
  commits_too_large m bytes front (fault.Invalid violation found) same is large = absurd large
  commits_too_large m bytes front (fault.DatabaseFull weight found) same is large = absurd large
  commits_too_large m bytes front (fault.HistoryFull weight found) same is large = absurd large
  commits_too_large m bytes front (fault.DiskFault found) same is large = absurd large

  module _ (commit : past.Commit) (aside : ℕ) (is : Decides (verdict.Commits commit aside)) (keys : KeyMap) (keys_are : keys ≡ after core.keys set.changes) (renewed : Option (List FileText))
      (brings : (procs : ℕ → KeyMap) → AreRenewed formats (store_of files procs) keys set.touched renewed) (next : Core D P) (new : Record) where
    abbrev mounts : List Mount
    mounts = over (λ (file : MountedFile). file.mount) files

    abbrev filed : Prepared
    filed = with_texts prepared renewed

    own : Decides (verdict.Commits (commit_of set) aside)
    own =
        subst (λ (c : past.Commit). Decides (verdict.Commits c aside)) (is_committed formats (store_of files none_of) core.history.commits core.keys set commit aside (is none_of)).is is

    -- what the core and the record are by the answer
    record Ends (result : Result Done CommitFault) : Type 0 where
      judged : (rose : Bool) → Judges rose result
      cause : (front : ℕ) → result ≡ Err (fault.DiskFault front)
          → HasRisen (g.faults core.journal.disk) (g.faults next.journal.disk)
      valid : (violation : Violation) (front : ℕ) → result ≡ Err (fault.Invalid violation front) → ⊥
      unwritten : has_written result ≡ false → IsUnwritten core next
      wrote : has_written result ≡ true → next.wrote ≡ true

    ends : (result : Result Done CommitFault)
        → IsEntered g mounts commit aside keys filed (record core { patterns = patterns }) next rec new result
        → Ends result
    ends (Ok m) has = record {
      judged = λ rose. subst (λ (d : Done). Judges rose (Ok d)) (sym has.0) (λ procs. (refl, own procs));
      cause = λ front e. absurd cc;
      valid = λ rule front e. cc;
      unwritten = λ none. absurd (true≢false (sym (ap (λ (d : Done). has_written (Ok d)) has.0) ∙ none));
      wrote = λ yes. has.1.wrote;
    }
    ends (Err fault.Memory) has = record {
      judged = λ rose procs. tt;
      cause = λ front e. absurd cc;
      valid = λ rule front e. cc;
      unwritten = λ none. record { journal = has.1.journal; history = has.1.history; start = has.1.start; keys = has.1.keys; wrote = has.1.wrote };
      wrote = λ yes. absurd cc;
    }
    ends (Err (fault.DiskFault front)) has = record {
      judged = λ rose procs. (aside, has.0, own procs);
      cause = λ other e. has.1.cause;
      valid = λ rule other e. cc;
      unwritten = λ none. absurd cc;
      wrote = λ yes. has.1.wrote;
    }
    ends (Err (fault.Conflict mount by front)) has = absurd has
    ends (Err (fault.FileTooLarge mount bytes front)) has = absurd has
    ends (Err (fault.Invalid violation front)) has = absurd has
    ends (Err (fault.DatabaseFull weight front)) has = absurd has
    ends (Err (fault.HistoryFull weight front)) has = absurd has

    pub commits_entry : (result : Result Done CommitFault)
        → EntersHistory g mounts commit aside keys filed moved next rec new result
        → CommitsSet formats g refusals files core next rec new prepared result
    commits_entry result enters =
        let entered : IsEntered g mounts commit aside keys filed (record core { patterns = patterns }) next rec new result =
        subst (λ (log : Log). IsEntered g mounts commit aside keys filed (record core { patterns = patterns; history = log }) next rec new result) same_history enters.entered in
        let end : Ends result = ends result entered in
        let rose : Bool = has_risen (refusals core.patterns) (refusals next.patterns) in
        record {
          judged = end.judged rose;
          made = λ procs records made world p b.
              made_entered formats (store_of files procs) core records made world p rec prepared b commit aside (is procs) keys keys_are renewed (brings procs) g patterns next new rose result entered;
          committed = λ procs opened records made world run p b.
              answered_entered formats (store_of files procs) core records made world p rec prepared b.here g opened run b.on_disk next enters.start new rose commit aside (is procs) keys keys_are renewed (brings procs) patterns b.names result entered
              (made_entered formats (store_of files procs) core records made world p rec prepared b.here commit aside (is procs) keys keys_are renewed (brings procs) g patterns next new rose result entered);
          any_moment = λ procs opened records made world run p b.
              subst (λ (entry : List FileText). LeavesOnly g core.journal.disk next.journal.disk (IsAmid (files_of run) run.doubt entry))
              (texts_are formats (store_of files procs) core records made world p rec prepared b.here commit aside (is procs) keys keys_are renewed (brings procs)) (enters.any_moment opened run (record { names = b.names; store = b.on_disk }));
          start = enters.start;
          goes = enters.goes;
          cause = end.cause;
          refused = λ violation front e six short. absurd (end.valid violation front e);
          later = subst (λ (ps : P). refusals core.patterns ≤ refusals ps) (sym enters.patterns) later;
          unwritten = end.unwritten;
          wrote = end.wrote;
          handle = enters.handle;
          places = enters.places;
          proc = enters.proc;
        }
