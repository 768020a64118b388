-- What the commit of a set alone does to a store, and what it answers.
use Rattle.std.proofs.Common.{◌≡◌, ◌≢◌, ℕ, Bool, T, true, false, List, [], ◌∷◌, length, Option, Some, None, Result, Ok, Err, refl, sym, ap, ap₂, subst, ◌∙◌, arith}
use Rattle.std.proofs.lemmas.List.{length-map}
use Rattle.kdb_outside.specs.declared.disks.Disk.{Ghosts}
use Rattle.journal_codec.specs.Entry.{IsEntry}
use Rattle.journal_codec.specs.declared.files.FileText.{FileText}
use Rattle.intent_journal.specs.Journal.{JournalValue}
use Rattle.model_crashes.specs.Runs.{Run, IsOneOf, after_begun, after_commit}
use Rattle.model_files.specs.Files.{table_files}
use Rattle.model_files.specs.Texts as texts
use Rattle.model_history.specs.History as past
use Rattle.model_maps.specs.KeyMap.{KeyMap, no_keys}
use Rattle.model_names.specs.Name.{Name}
use Rattle.model_store.specs.Cores as cores
use Rattle.model_store.specs.Cores.{accepts, first_core}
use Rattle.model_store.specs.Events as event
use Rattle.model_store.specs.Events.{Answer as Told, Commit, Get, Prepare, put}
use Rattle.model_store.specs.First.{first_record}
use Rattle.model_store.specs.Promise.{Stands}
use Rattle.model_store.specs.Records as model
use Rattle.model_store.specs.Sets as sets
use Rattle.model_store.specs.Sets.{prepared}
use Rattle.model_specified.specs.declared.violations.Violation.{Violation}
use Rattle.model_store.specs.Records.{no_record}
use Rattle.model_store.specs.Store.{Store, points_of}
use Rattle.model_store.specs.Verdicts as late
use Rattle.model_store.specs.Verdicts.{Late, IsEarly, IsLate, commit_of}
use Rattle.model_store.specs.Worlds.{World, first_world}
use Rattle.model_store.proofs.Accepting.{accepts-own}
use Rattle.model_store.proofs.FirstSets.{never-blocked, never-large}
use Rattle.model_store.proofs.Owning.{Goes, first_stands, follows}
use Rattle.mounted_files.specs.declared.files.MountedFile.{MountedFile}
use Rattle.store_core.specs.Answers.{IsJudged, has_written}
use Rattle.store_core.specs.Committing.{RunsOn}
use Rattle.store_core.specs.Cores.{StandsIn, core_with}
use Rattle.store_core.specs.Frames.{IsUnwritten}
use Rattle.store_core.specs.Joined.{Belongs, BelongsIn, HasAnswered, IsReady}
use Rattle.store_core.specs.declared.committing.CommitFault.{CommitFault}
use Rattle.store_core.specs.declared.committing.CommitFault.TheVariants as fault
use Rattle.store_core.specs.declared.committing.Done.{Done}
use Rattle.store_core.specs.declared.committing.Done.TheVariants as done
use Rattle.store_core.specs.declared.cores.Core.{Core}
use Rattle.store_core.proofs.AnswerLemmas.{commit_entry}
use Rattle.store_core.proofs.MadeLemmas.{belongs_made}
use Rattle.store_phases.specs.Stores.{IsStore}
use Rattle.store_verdict.specs.Preparing.{IsMade}
use Rattle.store_verdict.specs.PreparedView.{prepared_of}
use Rattle.store_verdict.specs.RecordView.{record_of}
use Rattle.store_verdict.specs.declared.prepared.Prepared.{Prepared}
use Rattle.store_verdict.specs.declared.records.Record.{Record}
use Rattle.store_lines.specs.Lines.{invalid, database_full, history_full}
use Rattle.tool_commands.specs.Report.{Report, told, warned}
use Rattle.tool_single.specs.Answer.{Answer, Texts, entry_of}
use Rattle.tool_single.specs.Answer as answer
use Rattle.tool_commands.specs.StepView.{report_of}
use Rattle.tool_commands.specs.declared.reports.Report as code
use Rattle.tool_single.specs.Refusing.{IsRefusalOf}
use Rattle.tool_single.specs.Serving.{BeginsEntry, FailsToStore, HasFetched, Serves, Serving, run_with}
use Rattle.tool_single.specs.declared.answers.Stop.{Stop}
use Rattle.tool_single.specs.declared.answers.Stop.TheVariants as stops
use Rattle.tool_single.specs.Alone.{store_alone, the_handle}
use Rattle.tool_single.specs.Sets.{AnswersSet, Judged, formats, set_alone, stored_by}

-- ---- where nothing was committed before

module _ {D P : Type 0} (g : Ghosts D) (files : List MountedFile) (core : Core D P) (rec : Record) (set : Prepared) (here : StandsIn formats (store_alone files) core (λ r. no_record) (λ p. None) first_world)
    (parent : Name) (keys : KeyMap) (fetched : HasFetched files parent rec) (is_made : IsMade formats (store_alone files) the_handle (record_of rec) parent keys set) where
  abbrev store : Store
  store = store_alone files

  abbrev no_records : ℕ → model.Record
  no_records r = no_record

  abbrev no_sets : ℕ → Option sets.Prepared
  no_sets p = None

  history : core.history.commits ≡ []
  history = here.stands.history

  keys_are : core.keys ≡ store.start
  keys_are = here.stands.keys

  pub is_set : prepared_of set ≡ set_alone store parent keys
  is_set = is_made.is ∙ ap (λ (r : model.Record). prepared (points_of store) the_handle r parent keys) fetched.is

  pub early : IsEarly formats store (set_alone store parent keys) None
  early = subst (λ (s : sets.Prepared). IsEarly formats store s None) is_set is_made.early

  -- the handle got its parent, and prepared the set
  abbrev got_core : cores.Core
  got_core = record (first_core store) { records = put the_handle (first_record store parent) no_records }

  abbrev set_core : cores.Core
  set_core = record got_core { sets = put 0 (Some (set_alone store parent keys)) no_sets }

  abbrev after_get : Goes formats store first_world (Get the_handle parent) (event.Got 0 (event.got store store.start the_handle parent)) got_core
  after_get =
      follows formats store first_world (first_core store) (Get the_handle parent) (event.Got 0 (event.got store store.start the_handle parent)) got_core (first_stands formats store here.stands.sound)
      (record { good = fetched.good; front_is = refl; keys_are = refl; next_is = refl })

  abbrev after_prepare : Goes formats store after_get.after (Prepare the_handle 0 parent keys) event.Ready set_core
  after_prepare =
      follows formats store after_get.after got_core (Prepare the_handle 0 parent keys) event.Ready set_core after_get.stands (record { early = early; next_is = refl })

  abbrev pub records : ℕ → model.Record
  records = put the_handle (record_of rec) no_records

  abbrev pub made : ℕ → Option sets.Prepared
  made = put 0 (Some (prepared_of set)) no_sets

  abbrev pub world : World
  world = after_prepare.after

  core_is : set_core ≡ core_with core records made
  core_is = λ i. record {
    history = sym history i;
    keys = sym keys_are i;
    records = ap (λ (r : model.Record). put the_handle r no_records) (sym fetched.is) i;
    sets = ap (λ (s : sets.Prepared). put 0 (Some s) no_sets) (sym is_set) i;
  }

  pub belongs : BelongsIn formats store core records made world 0 rec set
  belongs = belongs_made formats store core records made world 0 rec set the_handle (record_of rec) parent keys
      (record { files = here.files; start = here.start; stands = subst (λ (c : cores.Core). Stands formats store world c) core_is after_prepare.stands })
      (ap (λ h. put the_handle (record_of rec) no_records h) fetched.handle)
      (omega (arith, fetched.places, length-map files (λ (file : MountedFile). file.mount)))
      refl
      (ap₂ (λ (h : ℕ) (s : sets.Prepared). accepts (record_of rec) h s) fetched.handle is_made.is ∙ accepts-own (points_of store) the_handle (record_of rec) parent keys)
      is_made

  pub ready : IsReady formats files core rec set
  ready =
      record { procs = λ handle. no_keys; records = records; made = made; world = world; number = 0; belongs = belongs }

  -- what the history decides of the set is what the definitions say of it alone
  alone : (verdict : Late) → IsLate formats store core.history.commits core.keys (prepared_of set) verdict
      → IsLate formats store [] store.start (set_alone store parent keys) verdict
  alone verdict is =
      subst (λ (s : sets.Prepared). IsLate formats store [] store.start s verdict) is_set
      (subst (λ (k : KeyMap). IsLate formats store [] k (prepared_of set) verdict) keys_are (subst (λ (h : List past.Commit). IsLate formats store h core.keys (prepared_of set) verdict) history is))

  -- no commit blocks it
  pub not_blocked : (m by : ℕ)
      → IsLate formats store core.history.commits core.keys (prepared_of set) (late.Conflict m by) → ⊥
  not_blocked m by is =
      never-blocked formats store the_handle parent keys (late.Conflict m by) m by (alone (late.Conflict m by) is) refl

  pub blocks_not : (risen : Bool) (why : CommitFault)
      → IsJudged formats store risen core.history.commits core.keys (prepared_of set) (Err why)
      → (mount : Name) (by front : ℕ) → why ≡ fault.Conflict mount by front → ⊥
  blocks_not risen why judged mount by front is =
      let conflict = subst (λ (w : CommitFault). IsJudged formats store risen core.history.commits core.keys (prepared_of set) (Err w)) is judged in
      not_blocked conflict.0 by conflict.3

  -- nor is a file too large after it, since it passed
  pub not_large : (m size : ℕ)
      → IsLate formats store core.history.commits core.keys (prepared_of set) (late.TooLarge m size) → ⊥
  not_large m size is =
      never-large formats store the_handle parent keys early (late.TooLarge m size) m size (alone (late.TooLarge m size) is) refl

  pub is_small : (risen : Bool) (why : CommitFault)
      → IsJudged formats store risen core.history.commits core.keys (prepared_of set) (Err why)
      → (mount : Name) (bytes front : ℕ) → why ≡ fault.FileTooLarge mount bytes front → ⊥
  is_small risen why judged mount bytes front is =
      let large = subst (λ (w : CommitFault). IsJudged formats store risen core.history.commits core.keys (prepared_of set) (Err w)) is judged in
      not_large large.0 bytes large.3

  pub joined : (opened : D) (run : Run) → run.names ≡ table_files store → IsStore g opened core.journal run
      → Belongs formats g store opened core records made world run 0 rec set
  joined opened run names on_disk = record { here = belongs; on_disk = on_disk; names = names }

  module _ (MayRefuse : List ℕ → Type 0) (risen : Bool) (out : List ℕ) (after : Core D P) (new : Record) where
    -- the set was committed with this answer, for each run that the journal stands for
    abbrev ForEachRun : Result Done CommitFault → Type 0
    ForEachRun result =
        (opened : D) (run : Run) → run.names ≡ table_files store → IsStore g opened core.journal run → HasAnswered formats g store opened core after records made run 0 rec new set risen result

    abbrev Answered : Answer → Type 0
    Answered = AnswersSet MayRefuse files parent keys out

    abbrev the_commit : past.Commit
    the_commit = commit_of (set_alone store parent keys)

    abbrev stored : Texts
    stored = stored_by store store.start the_commit

    -- the set is a commit
    module _ (aside : ℕ) (is : IsLate formats store core.history.commits core.keys (prepared_of set) (late.Commits (commit_of (prepared_of set)) aside)) where
      entry_is : texts.entry_of formats store core.keys (commit_of (prepared_of set)) ≡ entry_of stored
      entry_is = ap₂ (λ (k : KeyMap) (s : sets.Prepared). texts.entry_of formats store k (commit_of s)) keys_are is_set

      some : stored ≢ []
      some none =
          let whole : IsEntry (entry_of stored) = subst IsEntry entry_is (commit_entry formats store core records made world 0 rec set belongs (commit_of (prepared_of set)) aside is).entry in
          let empty : length (entry_of stored) ≡ 0 = ap (λ (ts : Texts). length (entry_of ts)) none in
          absurd (omega (arith, whole.not_empty, empty))

      answers : Answered (answer.stores stored out)
      answers = Judged early (late.Commits the_commit aside)
          (subst (λ (s : sets.Prepared). IsLate formats store [] store.start (set_alone store parent keys) (late.Commits (commit_of s) aside)) is_set (alone (late.Commits (commit_of (prepared_of set)) aside) is)) refl

    with_some : (run : Run) (texts : Texts) → texts ≢ [] → after_commit run (entry_of texts) ≡ run_with run texts
    with_some run [] none = absurd (none refl)
    with_some run (text ∷ ts) none = refl

    -- where the store is as it was
    still : (opened : D) (run : Run) → IsStore g opened core.journal run → IsUnwritten core after
        → IsStore g opened after.journal run
    still opened run on_disk kept = subst (λ (j : JournalValue D). IsStore g opened j run) (sym kept.journal) on_disk

    pub committed_serves : (number aside : ℕ)
        → IsJudged formats store risen core.history.commits core.keys (prepared_of set) (Ok (done.Committed number aside))
        → ForEachRun (Ok (done.Committed number aside)) → Serves g files Answered (told out) core after
    committed_serves number aside judged has = record {
      answer = answer.stores stored out;
      answers = answers aside judged.1;
      told = refl;
      committed = λ opened run names on_disk. goes_on opened run (has opened run names on_disk);
      kept = λ none. absurd (some aside judged.1 none);
      done = λ there. refl;
    }
      where
        goes_on : (opened : D) (run : Run)
            → HasAnswered formats g store opened core after records made run 0 rec new set risen (Ok (done.Committed number aside))
            → IsStore g opened after.journal (run_with run stored)
        goes_on opened run has =
            let later_is : has.later ≡ after_commit run (entry_of stored) = subst (λ (t : Told). RunsOn formats store core.keys run (made 0) t has.later) has.is_answer.1 has.committed.runs_on ∙ ap (after_commit run) (entry_is aside judged.1) in
            subst (λ (r : Run). IsStore g opened after.journal r) (later_is ∙ with_some run stored (some aside judged.1)) has.committed.on_disk

    pub same_serves : (front aside : ℕ)
        → IsJudged formats store risen core.history.commits core.keys (prepared_of set) (Ok (done.Same front aside))
        → IsUnwritten core after → Serves g files Answered (told out) core after
    same_serves front aside judged kept = record {
      answer = answer.done out;
      answers = Judged early (late.Same aside) (alone (late.Same aside) judged.1) refl;
      told = refl;
      committed = λ opened run names on_disk. still opened run on_disk kept;
      kept = λ none. kept;
      done = λ there. refl;
    }

    pub done_serves : (d : Done) → IsJudged formats store risen core.history.commits core.keys (prepared_of set) (Ok d)
        → ForEachRun (Ok d) → (has_written (Ok d) ≡ false → IsUnwritten core after)
        → Serves g files Answered (told out) core after
    done_serves (done.Committed number aside) judged has kept = committed_serves number aside judged has
    done_serves (done.Same front aside) judged has kept = same_serves front aside judged (kept refl)

    pub rule_serves : (violation : Violation) (front : ℕ) (report : Report)
        → ((pattern : List ℕ) → T risen → MayRefuse pattern) → report ≡ warned 5 (invalid violation)
        → IsJudged formats store risen core.history.commits core.keys (prepared_of set) (Err (fault.Invalid violation front))
        → IsUnwritten core after → Serves g files Answered report core after
    rule_serves violation front report may told_is judged kept = record {
      answer = answer.refused 5 (invalid violation);
      answers = Judged early (late.Invalid violation risen) (alone (late.Invalid violation risen) judged.1) (may violation.given, refl);
      told = sym told_is;
      committed = λ opened run names on_disk. still opened run on_disk kept;
      kept = λ none. kept;
      done = λ some. absurd (some refl);
    }

    pub full_serves : (weight front : ℕ) (report : Report) → report ≡ warned 5 (database_full weight)
        → IsJudged formats store risen core.history.commits core.keys (prepared_of set) (Err (fault.DatabaseFull weight front))
        → IsUnwritten core after → Serves g files Answered report core after
    full_serves weight front report told_is judged kept = record {
      answer = answer.refused 5 (database_full weight);
      answers = Judged early (late.DatabaseFull weight) (alone (late.DatabaseFull weight) judged.1) refl;
      told = sym told_is;
      committed = λ opened run names on_disk. still opened run on_disk kept;
      kept = λ none. kept;
      done = λ some. absurd (some refl);
    }

    pub history_serves : (weight front : ℕ) (report : Report) → report ≡ warned 5 (history_full weight)
        → IsJudged formats store risen core.history.commits core.keys (prepared_of set) (Err (fault.HistoryFull weight front))
        → IsUnwritten core after → Serves g files Answered report core after
    history_serves weight front report told_is judged kept = record {
      answer = answer.refused 5 (history_full weight);
      answers = Judged early (late.HistoryFull weight) (alone (late.HistoryFull weight) judged.1) refl;
      told = sym told_is;
      committed = λ opened run names on_disk. still opened run on_disk kept;
      kept = λ none. kept;
      done = λ some. absurd (some refl);
    }

    pub fault_fails : (front : ℕ) → after.wrote ≡ true
        → IsJudged formats store risen core.history.commits core.keys (prepared_of set) (Err (fault.DiskFault front))
        → ForEachRun (Err (fault.DiskFault front)) → FailsToStore g files Answered core after
    fault_fails front wrote judged has = record {
      answer = answer.stores stored out;
      answers = answers judged.0 judged.2;
      some = some judged.0 judged.2;
      begun = λ opened run names on_disk. begins opened run (has opened run names on_disk);
      wrote = wrote;
    }
      where
        begins : (opened : D) (run : Run)
            → HasAnswered formats g store opened core after records made run 0 rec new set risen (Err (fault.DiskFault front))
            → BeginsEntry g opened run (entry_of stored) after.journal
        begins opened run has =
            let later = subst (λ (t : Told). RunsOn formats store core.keys run (made 0) t has.later) has.is_answer has.committed.runs_on in
            let same = entry_is judged.0 judged.2 in
            record {
              doubt = later.0;
              one = subst (λ (e : List FileText). IsOneOf later.0 run.doubt e) same later.1;
              store = subst (λ (e : List FileText). IsStore g opened after.journal (after_begun run e later.0)) same (subst (λ (r : Run). IsStore g opened after.journal r) later.2 has.committed.on_disk);
            }

    -- what a set comes to that isn't committed
    pub refused_serving : (why : CommitFault) (result : Result code.Report Stop)
        → ((pattern : List ℕ) → T risen → MayRefuse pattern) → IsRefusalOf why result
        → IsJudged formats store risen core.history.commits core.keys (prepared_of set) (Err why) → ForEachRun (Err why)
        → (has_written (Err why) ≡ false → IsUnwritten core after) → (has_written (Err why) ≡ true → after.wrote ≡ true)
        → Serving g files Answered result core after
    refused_serving (fault.Conflict mount by front) result may refusal judged has kept wrote = absurd refusal
    refused_serving (fault.FileTooLarge mount bytes front) result may refusal judged has kept wrote = absurd refusal
    refused_serving (fault.Invalid violation front) (Ok report) may refusal judged has kept wrote =
        rule_serves violation front (report_of report) may refusal judged (kept refl)
    refused_serving (fault.Invalid violation front) (Err stop) may refusal judged has kept wrote =
        subst (λ (s : Stop). Serving g files Answered (Err s) core after) (sym refusal) (kept refl)
    refused_serving (fault.DatabaseFull weight front) (Ok report) may refusal judged has kept wrote =
        full_serves weight front (report_of report) refusal judged (kept refl)
    refused_serving (fault.DatabaseFull weight front) (Err stop) may refusal judged has kept wrote =
        subst (λ (s : Stop). Serving g files Answered (Err s) core after) (sym refusal) (kept refl)
    refused_serving (fault.HistoryFull weight front) (Ok report) may refusal judged has kept wrote =
        history_serves weight front (report_of report) refusal judged (kept refl)
    refused_serving (fault.HistoryFull weight front) (Err stop) may refusal judged has kept wrote =
        subst (λ (s : Stop). Serving g files Answered (Err s) core after) (sym refusal) (kept refl)
    refused_serving (fault.DiskFault front) result may refusal judged has kept wrote =
        subst (λ (r : Result code.Report Stop). Serving g files Answered r core after) (sym refusal) (fault_fails front (wrote refl) judged has)
    refused_serving fault.Memory result may refusal judged has kept wrote =
        subst (λ (r : Result code.Report Stop). Serving g files Answered r core after) (sym refusal) (kept refl)

stop_apart : (stop : Stop) → stop ≡ stops.Memory → ◌≡◌ {A = Result code.Report Stop} (Err stop) (Err stops.DiskFault)
    → ⊥
stop_apart stops.Memory memory is = absurd cc
stop_apart stops.DiskFault memory is = absurd cc
stop_apart stops.ReadFault memory is = absurd cc

-- a fault that ends the run so is one of the disk
pub refused_disk : (why : CommitFault) (result : Result code.Report Stop) → IsRefusalOf why result
    → result ≡ Err stops.DiskFault → (front : ℕ) × (why ≡ fault.DiskFault front)
refused_disk (fault.Conflict mount by front) result refusal is = absurd refusal
refused_disk (fault.FileTooLarge mount bytes front) result refusal is = absurd refusal
refused_disk (fault.Invalid violation front) (Ok report) refusal is = absurd cc
refused_disk (fault.Invalid violation front) (Err stop) refusal is = absurd (stop_apart stop refusal is)
refused_disk (fault.DatabaseFull weight front) (Ok report) refusal is = absurd cc
refused_disk (fault.DatabaseFull weight front) (Err stop) refusal is = absurd (stop_apart stop refusal is)
refused_disk (fault.HistoryFull weight front) (Ok report) refusal is = absurd cc
refused_disk (fault.HistoryFull weight front) (Err stop) refusal is = absurd (stop_apart stop refusal is)
refused_disk (fault.DiskFault front) result refusal is = (front, refl)
refused_disk fault.Memory result refusal is =
    absurd (let both : ◌≡◌ {A = Result code.Report Stop} (Err stops.Memory) (Err stops.DiskFault) = sym refusal ∙ is in cc)
