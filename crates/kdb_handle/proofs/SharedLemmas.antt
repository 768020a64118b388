-- The core stands for the story after each turn.
use Rattle.std.proofs.Common.{◌≡◌, inl, ℕ, ◌+◌, ◌≤◌, nat_eq, Bool, true, false, cond, List, [], ◌∷◌, ◌++◌, length, Option, Some, None, Result, Ok, Err, refl, sym, ap, ap₂, subst, ◌∙◌, append-nil, arith, length-append, eqb-true}
use Rattle.std.specs.Coded.{Coded}
use Rattle.std.proofs.lemmas.Bool.{and_parts, leb-true}
use Rattle.general_words.proofs.Lists.{some_is}
use Rattle.kdb_outside.specs.Faults.{HasRisen}
use Rattle.kdb_outside.specs.Frames.{GoesOn}
use Rattle.kdb_outside.specs.declared.disks.Disk.{Ghosts}
use Rattle.kdb_outside.specs.declared.faults.Failed.{Failed as DiskFailed}
use Rattle.kdb_outside.proofs.Frames.{GoesOn-then}
use Rattle.intent_journal.specs.Journal.{JournalValue}
use Rattle.kdb_handle.specs.Opened.{opening_of, store_at}
use Rattle.kdb_handle.specs.Rising.{HasRisenBy}
use Rattle.kdb_handle.specs.Runs.{RunsBy}
use Rattle.kdb_handle.specs.Shares.{IsShared}
use Rattle.kdb_handle.specs.Story.{Told, Opened, Committed, Failed, Refused, BeginsNone, commits_of, failures_in, refusals_in}
use Rattle.kdb_handle.specs.Turns.{MayCommit, told_by, is_refusal, record_by}
use Rattle.model_store.proofs.Accepting.{put-here}
use Rattle.kdb_handle.proofs.BelongLemmas.{others, records, known, world, rest_is, stands_in, belongs_in}
use Rattle.kdb_handle.proofs.RecordLemmas.{own_fronts}
use Rattle.kdb_handle.proofs.RunLemmas.{comes-to, runs-committed, runs-failed, runs-refused, risen-once, risen-still}
use Rattle.kdb_handle.proofs.StoryLemmas.{begins-commit, begins-failure, begins_none-before, commits-append, failures-append, refusals-append}
use Rattle.model_crashes.specs.Runs.{Run, IsOneOf, after_begun, after_commit}
use Rattle.model_files.specs.Files.{table_files}
use Rattle.model_files.specs.Texts.{entry_of}
use Rattle.model_history.specs.History as past
use Rattle.model_history.specs.History.{replay}
use Rattle.model_maps.specs.KeyMap.{KeyMap, no_keys}
use Rattle.model_rules.specs.Rules.{longest_pattern}
use Rattle.model_specified.specs.declared.violations.Violation.{Violation}
use Rattle.model_store.specs.Cores as cores
use Rattle.model_store.specs.Cores.{CommitMade, Made, core_after}
use Rattle.model_store.specs.Events as event
use Rattle.model_store.specs.Events.{put}
use Rattle.model_store.specs.Legal.{IsLegal}
use Rattle.model_store.specs.Records as model
use Rattle.model_store.specs.Records.{IsRecord, no_record}
use Rattle.model_store.specs.Sets as sets
use Rattle.model_store.specs.Sets.{front_in}
use Rattle.model_store.specs.Store.{Store, Formats, store_of}
use Rattle.model_store.specs.Verdicts as late
use Rattle.model_store.specs.Verdicts.{commit_of}
use Rattle.model_store.specs.Worlds.{World, first_world}
use Rattle.model_store.proofs.Owning.{Goes, follows}
use Rattle.mounted_files.specs.Visible.{visible_keys}
use Rattle.mounted_files.specs.declared.files.MountedFile.{MountedFile}
use Rattle.store_core.specs.Answers.{IsAnswer, has_written}
use Rattle.store_core.specs.Committing.{RunsOn}
use Rattle.store_core.specs.Cores.{StandsIn, core_with}
use Rattle.store_core.specs.Flushes.{FlushesStore}
use Rattle.store_core.specs.Frames.{IsUnwritten}
use Rattle.store_core.specs.Joined.{Belongs, BelongsIn, HasAnswered, HasMade}
use Rattle.store_core.specs.declared.committing.CommitFault.{CommitFault}
use Rattle.store_core.specs.declared.committing.CommitFault.TheVariants as fault
use Rattle.store_core.specs.declared.committing.Done.{Done}
use Rattle.store_core.specs.declared.committing.Done.TheVariants as done
use Rattle.store_core.specs.declared.cores.Core.{Core}
use Rattle.store_verdict.specs.PreparedView.{prepared_of}
use Rattle.store_verdict.specs.RecordView.{handle_of, record_of}
use Rattle.store_verdict.specs.declared.prepared.Prepared.{Prepared}
use Rattle.store_verdict.specs.declared.records.Record.{Record}

-- what stands as it was stands for the story that it stood for
pub shared_same : (formats : Formats) {D P : Type 0} (g : Ghosts D) (code : Coded D) (refused : P → ℕ)
    (core next : Core D P) (entries count : ℕ) (log told : List Told) → next ≡ core → count ≡ entries → told ≡ []
    → IsShared formats g code refused core entries log
    → IsShared formats g code refused next count (log ++ told)
shared_same formats {D} {P} g code refused core next entries count log told same counted none shared =
    subst (λ (c : Core D P). IsShared formats g code refused c count (log ++ told)) (sym same)
    (subst (λ n. IsShared formats g code refused core n (log ++ told)) (sym counted)
    (subst (λ (l : List Told). IsShared formats g code refused core entries l) (sym (append-nil log) ∙ ap (λ (l : List Told). log ++ l) (sym none)) shared))

-- a core that was just opened stands for its opening alone
pub shared_first : (formats : Formats) {D P : Type 0} (g : Ghosts D) (code : Coded D) (refused : P → ℕ)
    (files held : List MountedFile) (core : Core D P) → held ≡ files
    → StandsIn formats (store_at files) core (λ r. no_record) (λ p. None) first_world
    → IsShared formats g code refused core 1 (Opened (opening_of code held core.journal (refused core.patterns) core.wrote) ∷ [])
shared_first formats g code refused files held core same st =
    subst (λ (fs : List MountedFile). IsShared formats g code refused core 1 (Opened (opening_of code fs core.journal (refused core.patterns) core.wrote) ∷ [])) (sym same) (record {
      opening = opening_of code files core.journal (refused core.patterns) core.wrote;
      rest = [];
      log_is = refl;
      count = refl;
      files = st.files;
      history = st.stands.history;
      start = st.start;
      keys = st.stands.keys;
      legal = st.stands.legal;
      sound = st.stands.sound;
      journal = core.journal;
      journal_is = refl;
      goes = record { tells = refl; moment = omega arith; later = omega arith };
      faults = inl (omega arith);
      refusals = inl (omega arith);
      idle = λ none empty. (refl, refl);
      run = λ start first names stands. (first, refl, stands);
    })

-- what was flushed stands for the story that it stood for, whatever came of it
pub shared_flushed : (formats : Formats) {D P : Type 0} (g : Ghosts D) (code : Coded D) (refused : P → ℕ)
    (core next : Core D P) (result : Result Bool DiskFailed) (entries : ℕ) (log : List Told)
    → FlushesStore g core next result
    → IsShared formats g code refused core entries log → IsShared formats g code refused next entries log
shared_flushed formats {D} {P} g code refused core next result entries log flushed shared = record {
  opening = shared.opening;
  rest = shared.rest;
  log_is = shared.log_is;
  count = shared.count;
  files = shared.files;
  history = ap (λ h. h.commits) flushed.history ∙ shared.history;
  start = flushed.start ∙ shared.start;
  keys = flushed.keys ∙ shared.keys;
  legal = shared.legal;
  sound = shared.sound;
  journal = shared.journal;
  journal_is = shared.journal_is;
  goes = GoesOn-then g shared.journal.disk core.journal.disk next.journal.disk shared.goes flushed.goes;
  faults = risen-still (failures_in shared.rest) (g.faults shared.journal.disk) (g.faults core.journal.disk) (g.faults next.journal.disk) shared.faults flushed.goes.later;
  refusals = subst (λ (p : P). HasRisenBy (refusals_in shared.rest) shared.opening.refusals (refused p)) (sym flushed.patterns) shared.refusals;
  -- where no entry waited from the first, and none was begun since, none waits
  idle = λ none empty.
      let was = shared.idle none empty in
      let still = (flushed.none (ap (λ (j : JournalValue D). j.list) was.0 ∙ empty)).0 in (ap (λ (c : Core D P). c.journal) still ∙ was.0, flushed.wrote ∙ was.1);
  run = λ start first names stands. let before = shared.run start first names stands in (before.0, before.1, flushed.on_disk start before.0 before.2);
}

-- how what is kept goes on, by the answer to a commit
abbrev core_by : Store → cores.Core → ℕ → sets.Prepared → Result Done CommitFault → cores.Core
core_by store old r set (Ok (done.Committed number aside)) =
    core_after store old r set (late.Commits (commit_of set) aside)
core_by store old r set (Ok (done.Same front aside)) = old
core_by store old r set (Err why) = old

module _ (formats : Formats) {D P : Type 0} (g : Ghosts D) (code : Coded D) (refused : P → ℕ) (files : List MountedFile) (core : Core D P) (entries : ℕ) (log : List Told)
    (rec : Record) (set : Prepared) (may : MayCommit formats g code refused files core entries log rec set) (after : Core D P) (new : Record) (risen : Bool) where
  abbrev store : Store
  store = store_at files

  abbrev now : sets.Prepared
  now = prepared_of set

  abbrev recs : ℕ → model.Record
  recs = records formats g code refused files core entries log rec set may

  abbrev sets_known : ℕ → Option sets.Prepared
  sets_known = known formats g code refused files core entries log rec set may

  abbrev old : cores.Core
  old = core_with core recs sets_known

  abbrev next : cores.Core
  next = core_with after (put (handle_of rec) (record_of new) recs) sets_known

  judged_next : (front aside : ℕ)
      → CommitMade formats store old (handle_of rec) 0 front (late.Commits (commit_of now) aside) next
      → next ≡ core_after store old (handle_of rec) now (late.Commits (commit_of now) aside)
  judged_next front aside made =
      made.next_is
      ∙ ap (λ (s : sets.Prepared). core_after store old (handle_of rec) s (late.Commits (commit_of now) aside)) (sym (some_is now made.judged.set made.judged.is_set))

  made_of : (answer other : event.Answer) → answer ≡ other
      → Made formats store old (event.Commit (handle_of rec) 0) answer next
      → Made formats store old (event.Commit (handle_of rec) 0) other next
  made_of answer other is made =
      subst (λ (a : event.Answer). Made formats store old (event.Commit (handle_of rec) 0) a next) is made

  next_by : (result : Result Done CommitFault)
      → HasMade formats store core after recs sets_known 0 rec new set risen result
      → next ≡ core_by store old (handle_of rec) now result
  next_by (Ok (done.Committed number aside)) has =
      judged_next (length core.history.commits) aside (made_of has.answer _ has.is_answer.1 has.is_made)
  next_by (Ok (done.Same front aside)) has = (made_of has.answer _ has.is_answer has.is_made).next_is
  next_by (Err (fault.Conflict mount by front)) has = (made_of has.answer _ has.is_answer.2 has.is_made).next_is
  next_by (Err (fault.FileTooLarge mount bytes front)) has = (made_of has.answer _ has.is_answer.2 has.is_made).next_is
  next_by (Err (fault.Invalid violation front)) has = (made_of has.answer _ has.is_answer has.is_made).next_is
  next_by (Err (fault.DatabaseFull weight front)) has = (made_of has.answer _ has.is_answer has.is_made).next_is
  next_by (Err (fault.HistoryFull weight front)) has = (made_of has.answer _ has.is_answer has.is_made).next_is
  next_by (Err (fault.DiskFault front)) has = (made_of has.answer _ has.is_answer has.is_made).next_is
  next_by (Err fault.Memory) has = made_of has.answer _ has.is_answer has.is_made

  here : recs (handle_of rec) ≡ record_of rec
  here = put-here (handle_of rec) (record_of rec) (others formats g code refused files core entries log rec set may)

  -- a refused pattern adds nothing to the history
  untold : (b : Bool) → core.history.commits ≡ core.history.commits ++ commits_of (cond b (Refused now.handle ∷ []) [])
  untold true = sym (append-nil core.history.commits)
  untold false = sym (append-nil core.history.commits)

  -- what the history gains
  history_by : (result : Result Done CommitFault)
      → (core_by store old (handle_of rec) now result).history ≡ core.history.commits ++ commits_of (told_by now result)
  history_by (Ok (done.Committed number aside)) = refl
  history_by (Ok (done.Same front aside)) = sym (append-nil core.history.commits)
  history_by (Err (fault.Conflict mount by front)) = sym (append-nil core.history.commits)
  history_by (Err (fault.FileTooLarge mount bytes front)) = sym (append-nil core.history.commits)
  history_by (Err (fault.Invalid violation front)) = untold (is_refusal violation)
  history_by (Err (fault.DatabaseFull weight front)) = sym (append-nil core.history.commits)
  history_by (Err (fault.HistoryFull weight front)) = sym (append-nil core.history.commits)
  history_by (Err (fault.DiskFault front)) = sym (append-nil core.history.commits)
  history_by (Err fault.Memory) = sym (append-nil core.history.commits)

  record_next : (result : Result Done CommitFault)
      → (core_by store old (handle_of rec) now result).records (handle_of rec)
      ≡ record_by store core.history.commits now result (record_of rec)
  record_next (Ok (done.Committed number aside)) =
      put-here (handle_of rec) (record_by store core.history.commits now (Ok (done.Committed number aside)) (recs (handle_of rec))) recs
      ∙ ap (record_by store core.history.commits now (Ok (done.Committed number aside))) here
  record_next (Ok (done.Same front aside)) = here
  record_next (Err why) = here

  -- the record after a commit
  pub record_after : (result : Result Done CommitFault)
      → HasMade formats store core after recs sets_known 0 rec new set risen result
      → record_of new ≡ record_by store core.history.commits now result (record_of rec)
  record_after result has =
      sym (put-here (handle_of rec) (record_of new) recs)
      ∙ ap (λ (c : cores.Core). c.records (handle_of rec)) (next_by result has) ∙ record_next result

  -- the run goes on by the story
  module _ (first last later : Run) (runs : RunsBy formats store (visible_keys files) first may.shared.rest last) where
    present : core.keys ≡ replay (visible_keys files) (commits_of may.shared.rest)
    present =
        may.shared.keys
        ∙ ap (λ (fs : List MountedFile). replay (visible_keys fs) (commits_of may.shared.rest)) may.opening

    runs_still : later ≡ last → RunsBy formats store (visible_keys files) first (may.shared.rest ++ []) later
    runs_still same =
        subst (λ (run : Run). RunsBy formats store (visible_keys files) first (may.shared.rest ++ []) run) (sym same) (subst (λ (l : List Told). RunsBy formats store (visible_keys files) first l last) (sym (append-nil may.shared.rest)) runs)

    runs_refused : (b : Bool) → later ≡ last
        → RunsBy formats store (visible_keys files) first (may.shared.rest ++ cond b (Refused now.handle ∷ []) []) later
    runs_refused true same =
        subst (λ (run : Run). RunsBy formats store (visible_keys files) first (may.shared.rest ++ Refused now.handle ∷ []) run) (sym same) (runs-refused formats store (visible_keys files) first last may.shared.rest now.handle runs)
    runs_refused false same = runs_still same

    on_by : (answer other : event.Answer) → answer ≡ other → RunsOn formats store core.keys last (Some now) answer later
        → RunsOn formats store core.keys last (Some now) other later
    on_by answer other is on =
        subst (λ (a : event.Answer). RunsOn formats store core.keys last (Some now) a later) is on

    runs_by : (result : Result Done CommitFault) (answer : event.Answer)
        → IsAnswer store.mounts risen (length core.history.commits) now result answer
        → RunsOn formats store core.keys last (Some now) answer later
        → RunsBy formats store (visible_keys files) first (may.shared.rest ++ told_by now result) later
    runs_by (Ok (done.Committed number aside)) answer is on =
        let to : later ≡ after_commit last (entry_of formats store core.keys (commit_of now)) = on_by answer (event.Judged (length core.history.commits) (late.Commits (commit_of now) aside)) is.1 on in
        subst (λ (run : Run). RunsBy formats store (visible_keys files) first (may.shared.rest ++ Committed (commit_of now) ∷ []) run)
        (sym (to ∙ ap (λ (keys : KeyMap). after_commit last (entry_of formats store keys (commit_of now))) present))
        (runs-committed formats store (visible_keys files) first last may.shared.rest (commit_of now) runs)
    runs_by (Ok (done.Same front aside)) answer is on =
        runs_still (on_by answer (event.Judged front (late.Same aside)) is on)
    runs_by (Err (fault.Conflict mount by front)) answer is on =
        runs_still (on_by answer (event.Judged front (late.Conflict is.0 by)) is.2 on)
    runs_by (Err (fault.FileTooLarge mount bytes front)) answer is on =
        runs_still (on_by answer (event.Judged front (late.TooLarge is.0 bytes)) is.2 on)
    runs_by (Err (fault.Invalid violation front)) answer is on =
        runs_refused (is_refusal violation) (on_by answer (event.Judged front (late.Invalid violation risen)) is on)
    runs_by (Err (fault.DatabaseFull weight front)) answer is on =
        runs_still (on_by answer (event.Judged front (late.DatabaseFull weight)) is on)
    runs_by (Err (fault.HistoryFull weight front)) answer is on =
        runs_still (on_by answer (event.Judged front (late.HistoryFull weight)) is on)
    runs_by (Err (fault.DiskFault front)) answer is on =
        let begun = on_by answer (event.Failed front) is on in
        subst (λ (run : Run). RunsBy formats store (visible_keys files) first (may.shared.rest ++ Failed (commit_of now) ∷ []) run)
        (sym (begun.2 ∙ ap (λ (keys : KeyMap). after_begun last (entry_of formats store keys (commit_of now)) begun.0) present))
        (runs-failed formats store (visible_keys files) first last may.shared.rest (commit_of now) begun.0 runs
        (subst (λ (keys : KeyMap). IsOneOf begun.0 last.doubt (entry_of formats store keys (commit_of now))) present begun.1))
    runs_by (Err fault.Memory) answer is on = runs_still (on_by answer event.Memory is on)

  still : (n before : ℕ) → HasRisenBy n before (g.faults core.journal.disk)
      → g.faults core.journal.disk ≤ g.faults after.journal.disk
      → HasRisenBy (n + 0) before (g.faults after.journal.disk)
  still n before rose later =
      let same : n ≡ n + 0 = omega arith in
      subst (λ k. HasRisenBy k before (g.faults after.journal.disk)) same (risen-still n before (g.faults core.journal.disk) (g.faults after.journal.disk) rose later)

  -- what a call says of a refused pattern
  abbrev RefusalClause : Result Done CommitFault → Type 0
  RefusalClause result =
      (violation : Violation) (front : ℕ) → result ≡ Err (fault.Invalid violation front) → violation.rule ≡ 6 → length violation.given ≤ longest_pattern → HasRisen (refused core.patterns) (refused after.patterns)

  -- the count of faults rises by those that are told
  faults_by : (result : Result Done CommitFault) (n before : ℕ) → HasRisenBy n before (g.faults core.journal.disk)
      → g.faults core.journal.disk ≤ g.faults after.journal.disk
      → ((front : ℕ) → result ≡ Err (fault.DiskFault front) → HasRisen (g.faults core.journal.disk) (g.faults after.journal.disk))
      → HasRisenBy (n + failures_in (told_by now result)) before (g.faults after.journal.disk)
  faults_by (Ok (done.Committed number aside)) n before rose later cause = still n before rose later
  faults_by (Ok (done.Same front aside)) n before rose later cause = still n before rose later
  faults_by (Err (fault.Conflict mount by front)) n before rose later cause = still n before rose later
  faults_by (Err (fault.FileTooLarge mount bytes front)) n before rose later cause = still n before rose later
  faults_by (Err (fault.Invalid violation front)) n before rose later cause = by (is_refusal violation)
    where
      by : (b : Bool)
          → HasRisenBy (n + failures_in (cond b (Refused now.handle ∷ []) [])) before (g.faults after.journal.disk)
      by true = still n before rose later
      by false = still n before rose later
  faults_by (Err (fault.DatabaseFull weight front)) n before rose later cause = still n before rose later
  faults_by (Err (fault.HistoryFull weight front)) n before rose later cause = still n before rose later
  faults_by (Err (fault.DiskFault front)) n before rose later cause =
      risen-once n before (g.faults core.journal.disk) (g.faults after.journal.disk) rose (cause front refl) later
  faults_by (Err fault.Memory) n before rose later cause = still n before rose later

  unrefused : (n before : ℕ) → HasRisenBy n before (refused core.patterns)
      → refused core.patterns ≤ refused after.patterns → HasRisenBy (n + 0) before (refused after.patterns)
  unrefused n before rose later =
      let same : n ≡ n + 0 = omega arith in
      subst (λ k. HasRisenBy k before (refused after.patterns)) same (risen-still n before (refused core.patterns) (refused after.patterns) rose later)

  -- and the count of refusals by those
  refusals_by : (result : Result Done CommitFault) (n before : ℕ) → HasRisenBy n before (refused core.patterns)
      → refused core.patterns ≤ refused after.patterns → RefusalClause result
      → HasRisenBy (n + refusals_in (told_by now result)) before (refused after.patterns)
  refusals_by (Ok (done.Committed number aside)) n before rose later cause = unrefused n before rose later
  refusals_by (Ok (done.Same front aside)) n before rose later cause = unrefused n before rose later
  refusals_by (Err (fault.Conflict mount by front)) n before rose later cause = unrefused n before rose later
  refusals_by (Err (fault.FileTooLarge mount bytes front)) n before rose later cause = unrefused n before rose later
  refusals_by (Err (fault.Invalid violation front)) n before rose later cause = by (is_refusal violation) refl
    where
      by : (b : Bool) → is_refusal violation ≡ b
          → HasRisenBy (n + refusals_in (cond b (Refused now.handle ∷ []) [])) before (refused after.patterns)
      by false is = unrefused n before rose later
      by true is =
          risen-once n before (refused core.patterns) (refused after.patterns) rose
          (cause violation front refl (eqb-true violation.rule 6 (and_parts _ _ is).0) (leb-true (length violation.given) longest_pattern (and_parts (nat_eq violation.rule 6) _ is).1)) later
  refusals_by (Err (fault.DatabaseFull weight front)) n before rose later cause = unrefused n before rose later
  refusals_by (Err (fault.HistoryFull weight front)) n before rose later cause = unrefused n before rose later
  refusals_by (Err (fault.DiskFault front)) n before rose later cause = unrefused n before rose later
  refusals_by (Err fault.Memory) n before rose later cause = unrefused n before rose later

  -- what a call says of an answer before which nothing is written
  abbrev UnwrittenClause : Result Done CommitFault → Type 0
  UnwrittenClause result = has_written result ≡ false → IsUnwritten core after

  abbrev Idles : Type 0
  Idles = (after.journal ≡ may.shared.journal) × (after.wrote ≡ may.shared.opening.wrote)

  idle_still : (told : List Told) → IsUnwritten core after → BeginsNone (may.shared.rest ++ told)
      → may.shared.journal.list ≡ [] → Idles
  idle_still told unwritten none empty =
      let was = may.shared.idle (begins_none-before may.shared.rest told none) empty in (unwritten.journal ∙ was.0, unwritten.wrote ∙ was.1)

  -- where no set was begun, the journal is as the opening left it
  idle_by : (result : Result Done CommitFault) → UnwrittenClause result
      → BeginsNone (may.shared.rest ++ told_by now result) → may.shared.journal.list ≡ [] → Idles
  idle_by (Ok (done.Committed number aside)) unwritten none empty =
      absurd (begins-commit may.shared.rest (commit_of now) none)
  idle_by (Ok (done.Same front aside)) unwritten none empty = idle_still [] (unwritten refl) none empty
  idle_by (Err (fault.Conflict mount by front)) unwritten none empty = idle_still [] (unwritten refl) none empty
  idle_by (Err (fault.FileTooLarge mount bytes front)) unwritten none empty = idle_still [] (unwritten refl) none empty
  idle_by (Err (fault.Invalid violation front)) unwritten none empty =
      idle_still (told_by now (Err (fault.Invalid violation front))) (unwritten refl) none empty
  idle_by (Err (fault.DatabaseFull weight front)) unwritten none empty = idle_still [] (unwritten refl) none empty
  idle_by (Err (fault.HistoryFull weight front)) unwritten none empty = idle_still [] (unwritten refl) none empty
  idle_by (Err (fault.DiskFault front)) unwritten none empty =
      absurd (begins-failure may.shared.rest (commit_of now) none)
  idle_by (Err fault.Memory) unwritten none empty = idle_still [] (unwritten refl) none empty

  -- the core stands for the story with what the turn told
  pub shared_next : (result : Result Done CommitFault) (told : List Told) (count : ℕ) → told ≡ told_by now result
      → count ≡ entries + length told
      → HasMade formats store core after recs sets_known 0 rec new set risen result
      → ((start : D) (run : Run) → Belongs formats g store start core recs sets_known (world formats g code refused files core entries log rec set may) run 0 rec set
      → HasAnswered formats g store start core after recs sets_known run 0 rec new set risen result)
      → GoesOn g core.journal.disk after.journal.disk
      → ((front : ℕ) → result ≡ Err (fault.DiskFault front) → HasRisen (g.faults core.journal.disk) (g.faults after.journal.disk))
      → refused core.patterns ≤ refused after.patterns → RefusalClause result → UnwrittenClause result
      → after.start ≡ core.start
      → IsShared formats g code refused after count (log ++ told)
  shared_next result told count told_is counted has answers goes cause more refusal unwritten stays =
      let shared = may.shared in
      let w = world formats g code refused files core entries log rec set may in
      let on : Goes formats store w (event.Commit (handle_of rec) 0) has.answer next = follows formats store w old (event.Commit (handle_of rec) 0) has.answer next (stands_in formats g code refused files core entries log rec set may).stands has.is_made in
      let gained : after.history.commits ≡ commits_of (shared.rest ++ told) =
      ap (λ (c : cores.Core). c.history) (next_by result has) ∙ history_by result
      ∙ ap₂ (λ (cs : List past.Commit) (ts : List Told). cs ++ commits_of ts) shared.history (sym told_is) ∙ sym (commits-append shared.rest told) in
      let past_is : on.after.history ≡ commits_of (shared.rest ++ told) = sym on.stands.history ∙ gained in
      record {
        opening = shared.opening;
        rest = shared.rest ++ told;
        log_is = ap (λ (l : List Told). l ++ told) shared.log_is;
        count = omega (arith, counted, shared.count, length-append log told);
        files = shared.files;
        history = gained;
        start = stays ∙ shared.start;
        keys = on.stands.keys ∙ ap₂ (λ (fs : List MountedFile) (cs : List past.Commit). replay (visible_keys fs) cs) (sym may.opening) past_is;
        legal = subst (λ (fs : List MountedFile). IsLegal formats (store_at fs) (commits_of (shared.rest ++ told))) (sym may.opening) (subst (λ (cs : List past.Commit). IsLegal formats store cs) past_is on.stands.legal);
        sound = shared.sound;
        journal = shared.journal;
        journal_is = shared.journal_is;
        goes = GoesOn-then g shared.journal.disk core.journal.disk after.journal.disk shared.goes goes;
        faults =
            subst (λ n. HasRisenBy n (g.faults shared.journal.disk) (g.faults after.journal.disk)) (sym (failures-append shared.rest told))
            (subst (λ (ts : List Told). HasRisenBy (failures_in shared.rest + failures_in ts) (g.faults shared.journal.disk) (g.faults after.journal.disk)) (sym told_is)
            (faults_by result (failures_in shared.rest) (g.faults shared.journal.disk) shared.faults goes.later cause));
        refusals =
            subst (λ n. HasRisenBy n shared.opening.refusals (refused after.patterns)) (sym (refusals-append shared.rest told))
            (subst (λ (ts : List Told). HasRisenBy (refusals_in shared.rest + refusals_in ts) shared.opening.refusals (refused after.patterns)) (sym told_is)
            (refusals_by result (refusals_in shared.rest) shared.opening.refusals shared.refusals more refusal));
        idle = λ none. idle_by result unwritten (subst (λ (ts : List Told). BeginsNone (shared.rest ++ ts)) told_is none);
        run = λ start first names store_first.
            let before = shared.run start first names store_first in
            let last : Run = before.0 in
            let runs : RunsBy formats store (visible_keys files) first shared.rest last = subst (λ (fs : List MountedFile). RunsBy formats (store_at fs) (visible_keys fs) first shared.rest last) may.opening before.1 in
            let has_names : last.names ≡ table_files store =
            (comes-to formats store (visible_keys files) first last shared.rest runs).names ∙ names ∙ ap (λ (fs : List MountedFile). table_files (store_at fs)) may.opening in
            let has_run = answers start last (record { here = belongs_in formats g code refused files core entries log rec set may; on_disk = before.2; names = has_names }) in (
              has_run.later,
              subst (λ (fs : List MountedFile). RunsBy formats (store_at fs) (visible_keys fs) first (shared.rest ++ told) has_run.later) (sym may.opening)
                  (subst (λ (ts : List Told). RunsBy formats store (visible_keys files) first (shared.rest ++ ts) has_run.later) (sym told_is)
                  (runs_by first last has_run.later runs result has_run.answer has_run.is_answer has_run.committed.runs_on)),
              has_run.committed.on_disk,
            );
      }

  -- and the record is that of its fronts in the history then
  pub record_kept : (result : Result Done CommitFault) (told : List Told) → told ≡ told_by now result
      → HasMade formats store core after recs sets_known 0 rec new set risen result
      → IsRecord store (commits_of (log ++ told)) (handle_of rec) (front_in (record_of new)) (record_of new)
  record_kept result told told_is has =
      let shared = may.shared in
      let w = world formats g code refused files core entries log rec set may in
      let on : Goes formats store w (event.Commit (handle_of rec) 0) has.answer next = follows formats store w old (event.Commit (handle_of rec) 0) has.answer next (stands_in formats g code refused files core entries log rec set may).stands has.is_made in
      let gained : after.history.commits ≡ commits_of (log ++ told) =
      ap (λ (c : cores.Core). c.history) (next_by result has) ∙ history_by result
      ∙ ap₂ (λ (cs : List past.Commit) (ts : List Told). cs ++ commits_of ts) (shared.history ∙ rest_is formats g code refused files core entries log rec set may) (sym told_is) ∙ sym (commits-append log told) in
      let there : IsRecord store on.after.history (handle_of rec) (on.after.fronts (handle_of rec)) (record_of new) =
      subst (λ (r : model.Record). IsRecord store on.after.history (handle_of rec) (on.after.fronts (handle_of rec)) r) (put-here (handle_of rec) (record_of new) recs) (on.stands.records (handle_of rec)) in
      subst (λ (cs : List past.Commit). IsRecord store cs (handle_of rec) (front_in (record_of new)) (record_of new)) (sym on.stands.history ∙ gained)
      (own_fronts store on.after.history (handle_of rec) (on.after.fronts (handle_of rec)) (record_of new) there)

  -- ---- the same, from the clauses of the call

  abbrev MadeClause : Result Done CommitFault → Type 0
  MadeClause result =
      (procs : ℕ → KeyMap) (rs : ℕ → model.Record) (ss : ℕ → Option sets.Prepared) (w : World) (p : ℕ) → BelongsIn formats (store_of files procs) core rs ss w p rec set → HasMade formats (store_of files procs) core after rs ss p rec new set risen result

  made_here : (result : Result Done CommitFault) → MadeClause result
      → HasMade formats store core after recs sets_known 0 rec new set risen result
  made_here result clause =
      clause (λ r. no_keys) recs sets_known (world formats g code refused files core entries log rec set may) 0 (belongs_in formats g code refused files core entries log rec set may)

  pub next_shared : (result : Result Done CommitFault) (told : List Told) (count : ℕ) → told ≡ told_by now result
      → count ≡ entries + length (told_by now result) → MadeClause result
      → ((procs : ℕ → KeyMap) (start : D) (rs : ℕ → model.Record) (ss : ℕ → Option sets.Prepared) (w : World) (run : Run) (p : ℕ) → Belongs formats g (store_of files procs) start core rs ss w run p rec set
      → HasAnswered formats g (store_of files procs) start core after rs ss run p rec new set risen result)
      → GoesOn g core.journal.disk after.journal.disk
      → ((front : ℕ) → result ≡ Err (fault.DiskFault front) → HasRisen (g.faults core.journal.disk) (g.faults after.journal.disk))
      → refused core.patterns ≤ refused after.patterns → RefusalClause result → UnwrittenClause result
      → after.start ≡ core.start
      → IsShared formats g code refused after count (log ++ told)
  next_shared result told count told_is counted made answered goes cause more refusal unwritten stays =
      shared_next result told count told_is (counted ∙ ap (λ (l : List Told). entries + length l) (sym told_is)) (made_here result made)
      (λ start run b. answered (λ r. no_keys) start recs sets_known (world formats g code refused files core entries log rec set may) run 0 b) goes cause more refusal unwritten stays

  pub next_kept : (result : Result Done CommitFault) (told : List Told) → told ≡ told_by now result → MadeClause result
      → IsRecord store (commits_of (log ++ told)) (handle_of rec) (front_in (record_of new)) (record_of new)
  next_kept result told told_is made = record_kept result told told_is (made_here result made)

  pub next_record : (result : Result Done CommitFault) → MadeClause result
      → record_of new ≡ record_by store core.history.commits now result (record_of rec)
  next_record result made = record_after result (made_here result made)
