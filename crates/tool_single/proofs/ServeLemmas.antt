-- What a command does to a disk, from what it did to the open store and what the opening and the close leave.
use Rattle.std.proofs.Common.{◌≡◌, ◌≢◌, ◌⊎◌, inl, inr, ℕ, ◌≤◌, true, false, List, [], ◌∷◌, Option, Some, None, Result, Ok, Err, IfOk, refl, sym, ap, subst, ◌∙◌}
use Rattle.intent_journal.specs.Opened.{IsFresh, open_list, opened_files}
use Rattle.intent_journal.specs.Opens.{has_any}
use Rattle.intent_journal.specs.Journal.{JournalValue}
use Rattle.journal_steps.specs.Moments.{LeavesOnly}
use Rattle.intent_journal.specs.Outcomes.{HasOnly}
use Rattle.journal_steps.specs.Outcomes.{with_entry, SameFiles, IsEither, IsOutcome}
use Rattle.intent_journal.specs.States.{IsCalm, IsSettled}
use Rattle.intent_journal.proofs.Opened.{calm_files}
use Rattle.intent_journal.proofs.OpenSteps.{calm_kept}
use Rattle.kdb_outside.proofs.Frames.{OnlyReads-none}
use Rattle.std.proofs.lemmas.Option.{none-some}
use Rattle.journal_codec.specs.declared.files.FileText.{FileText}
use Rattle.kdb_outside.specs.Crashes.{EveryImage}
use Rattle.kdb_outside.specs.Faults.{HasRisen}
use Rattle.kdb_outside.specs.Frames.{GoesOn, OnlyReads}
use Rattle.kdb_outside.specs.Images.{Image}
use Rattle.kdb_outside.specs.declared.disks.Disk.{Ghosts}
use Rattle.kdb_outside.proofs.Rises.{risen_since}
use Rattle.model_crashes.specs.Runs.{Run, IsReached, after_begun, files_of, new_run}
use Rattle.model_crashes.proofs.Moments.{only_both, only_now}
use Rattle.model_crashes.proofs.Reached.{only_weaker}
use Rattle.model_files.specs.Files.{table_files}
use Rattle.mounted_files.specs.declared.files.MountedFile.{MountedFile}
use Rattle.store_core.specs.Frames.{IsUnwritten}
use Rattle.store_core.specs.declared.cores.Core.{Core}
use Rattle.store_phases.specs.Resting.{RestsOn}
use Rattle.store_phases.specs.Stores.{IsStore}
use Rattle.tool_commands.specs.Report.{Report}
use Rattle.tool_commands.specs.StepView.{report_of}
use Rattle.tool_commands.specs.declared.reports.Report as code
use Rattle.tool_single.specs.Alone.{store_alone}
use Rattle.tool_single.specs.Answer.{Answer, Texts, entry_of, tells, with_stored}
use Rattle.tool_single.specs.Crashing.{HasNothingToWrite, MayBeLeft, MayRemain, StaysCalm, Alone, Stored}
use Rattle.tool_single.specs.Serving.{Serves, BeginsEntry, FailsToStore, Serving, MayStore, Served, StoresNothing, Unserved, Failing, Storing, Seeking, Serve, run_with}
use Rattle.tool_single.specs.Serving as serving
use Rattle.tool_single.specs.Stops.{or_memory}
use Rattle.tool_single.specs.declared.answers.Stop.{Stop}
use Rattle.tool_single.specs.declared.answers.Stop.TheVariants as stops
use Rattle.tool_single.proofs.CalmLemmas.{calm_on}
use Rattle.tool_single.proofs.CrashLemmas.{found, reached_none, reached_begun, reached_commit, left_found}

-- an opened store stands for a run without a commit, under a head with these names, on the files that the opening
-- leaves and with a doubt that stands for no other files
pub record HasBegun {D : Type 0} (g : Ghosts D) (disk : D) (files : Image) (doubt : Option (List FileText)) (names : List (List ℕ)) (journal : JournalValue D) : Type 0 where
  pub first : Option (List FileText)
  pub store : IsStore g journal.disk journal (new_run names (opened_files (g.seen disk)) (g.faults disk) first)
  pub within : (o : Image) → IsEither (opened_files (g.seen disk)) first o → IsEither files doubt o
  pub settled : open_list (g.seen disk) ≢ [] → first ≡ None

-- what an opening left of the disk
pub record HasOpened {D P : Type 0} (g : Ghosts D) (disk : D) (files : Image) (doubt : Option (List FileText)) (names : List (List ℕ)) (core : Core D P) : Type 0 where
  pub begun : HasBegun g disk files doubt names core.journal
  pub goes : GoesOn g disk core.journal.disk
  pub meanwhile : LeavesOnly g disk core.journal.disk (HasOnly (IsEither files doubt))
  pub alone : HasNothingToWrite (g.seen disk) → OnlyReads g disk core.journal.disk
  pub found : ¬ HasRisen (g.faults disk) (g.faults core.journal.disk)
      → SameFiles (opened_files (g.seen core.journal.disk)) (opened_files (g.seen disk))
  pub wrote : core.wrote ≡ has_any (open_list (g.seen disk))
  pub fresh : IsFresh core.journal

-- what the close of a store left of it
pub record HasClosed {D P : Type 0} (g : Ghosts D) (core : Core D P) (end : D) : Type 0 where
  pub alone : core.wrote ≡ false → IsFresh core.journal → end ≡ core.journal.disk
  pub shown : (opened : D) (run : Run) → IsStore g opened core.journal run
      → ¬ HasRisen (g.faults core.journal.disk) (g.faults end) → SameFiles (g.seen end) (files_of run)
  pub always : (opened : D) (run : Run) → IsStore g opened core.journal run
      → LeavesOnly g opened end (IsReached run.files run.commits run.begun)
  pub now : (opened : D) (run : Run) → IsStore g opened core.journal run
      → EveryImage (g.may_leave end) (HasOnly (IsEither (files_of run) run.doubt))
  pub rests : (opened : D) (run : Run) → IsStore g opened core.journal run → RestsOn g end (files_of run) run.doubt
  pub settled : (opened : D) (run : Run) → IsStore g opened core.journal run
      → ¬ HasRisen (g.faults core.journal.disk) (g.faults end)
      → (core.wrote ≡ true) ⊎ (¬ IsFresh core.journal) → IsSettled (g.may_leave end) (files_of run)
  pub goes : GoesOn g core.journal.disk end
  pub calm : (opened : D) (run : Run) → IsStore g opened core.journal run → ¬ HasRisen run.faults (g.faults end)
      → IsCalm (g.seen end) (g.may_leave end) (files_of run) run.doubt

-- an opening only read the disk, since it had nothing to write
pub record WasRead {D P : Type 0} (g : Ghosts D) (disk : D) (core : Core D P) : Type 0 where
  pub alone : OnlyReads g disk core.journal.disk
  pub wrote : core.wrote ≡ false
  pub fresh : IsFresh core.journal

-- ---- where the opening had nothing to write

module _ {D P : Type 0} (g : Ghosts D) (disk end : D) (old new : Core D P) (read : WasRead g disk old) (closes : new.wrote ≡ false → IsFresh new.journal → end ≡ new.journal.disk) where
  pub still_read : IsUnwritten old new → OnlyReads g disk end
  still_read kept =
      let wrote : new.wrote ≡ false = kept.wrote ∙ read.wrote in
      let fresh : IsFresh new.journal = subst (λ (j : JournalValue D). IsFresh j) (sym kept.journal) read.fresh in
      subst (OnlyReads g disk) (sym (closes wrote fresh ∙ ap (λ (j : JournalValue D). j.disk) kept.journal)) read.alone

  -- nothing is written where no answer stores anything
  pub serving_untouched : (mounted : List MountedFile) (Answered : Answer → Type 0) (result : Result code.Report Stop)
      → Serving g mounted Answered result old new → StoresNothing Answered → OnlyReads g disk end
  serving_untouched mounted Answered (Ok report) serves nothing =
      still_read (serves.kept (nothing serves.answer serves.answers))
  serving_untouched mounted Answered (Err stops.Memory) kept nothing = still_read kept
  serving_untouched mounted Answered (Err stops.DiskFault) fails nothing =
      absurd (fails.some (nothing fails.answer fails.answers))
  serving_untouched mounted Answered (Err stops.ReadFault) serving nothing = absurd serving

  -- nor where the command was not done and the disk didn't fail
  pub serving_unstored : (mounted : List MountedFile) (Answered : Answer → Type 0) (result : Result code.Report Stop)
      → Serving g mounted Answered result old new → ¬ MayStore result → OnlyReads g disk end
  serving_unstored mounted Answered (Ok report) serves not_done =
      still_read (by serves.answer.stored serves.kept serves.done)
    where
      by : (stored : Texts) → (stored ≡ [] → IsUnwritten old new) → (stored ≢ [] → report.status ≡ 0)
          → IsUnwritten old new
      by [] kept done = kept refl
      by (text ∷ texts) kept done = absurd (not_done (done (λ none. absurd cc)))
  serving_unstored mounted Answered (Err stops.Memory) kept not_done = still_read kept
  serving_unstored mounted Answered (Err stops.DiskFault) fails not_done = absurd (not_done tt)
  serving_unstored mounted Answered (Err stops.ReadFault) serving not_done = absurd serving

-- ---- on a calm disk

-- a calm disk with nothing in doubt is opened with its files
pub found_whole : {D : Type 0} (g : Ghosts D) (end : D) (files : Image) → g.tells end ≡ true
    → IsCalm (g.seen end) (g.may_leave end) files None → SameFiles (opened_files (g.seen end)) files
found_whole g end files told calm = elim (calm_files (g.seen end) (g.may_leave end) files None calm (g.read_is_image end told)) as (λ x. SameFiles (opened_files (g.seen end)) files) [
  | inl same ↦ same
  | inr one ↦ absurd (none-some one.0 one.1)
]

module _ {D P : Type 0} (g : Ghosts D) (disk end : D) (files : Image) (doubt : Option (List FileText)) (mounted : List MountedFile) (old new : Core D P) (has_opened : HasOpened g disk files doubt (table_files (store_alone mounted)) old) (has_closed : HasClosed g new end) where
  abbrev opened : Image
  opened = opened_files (g.seen disk)

  abbrev mid : D
  mid = old.journal.disk

  abbrev first : Run
  first = new_run (table_files (store_alone mounted)) opened (g.faults disk) has_opened.begun.first

  -- ---- by what is stored

  amid : (stored : Texts) (image : Image)
      → IsReached (run_with first stored).files (run_with first stored).commits (run_with first stored).begun image
      → MayBeLeft files doubt opened stored image
  amid [] image reached = reached_none files doubt opened has_opened.begun.first has_opened.begun.within image reached
  amid (text ∷ texts) image reached =
      reached_commit files doubt opened has_opened.begun.first has_opened.begun.within (entry_of (text ∷ texts)) image reached

  behind : (stored : Texts) (image : Image)
      → HasOnly (IsEither (files_of (run_with first stored)) (run_with first stored).doubt) image
      → MayRemain files doubt opened stored image
  behind [] image only =
      found files doubt opened has_opened.begun.first has_opened.begun.within has_opened.begun.first image (inr refl) only
  behind (text ∷ texts) image only =
      only_weaker (IsEither (with_entry opened (entry_of (text ∷ texts))) None) (IsOutcome (with_stored (text ∷ texts) opened)) image
      (λ o is. elim is as (λ x. SameFiles o (with_stored (text ∷ texts) opened)) [ inl same ↦ same | inr one ↦ absurd (no_doubt one.0 one.1) ]) only
    where
      no_doubt : (entry : List FileText) → None ≡ Some entry → ⊥
      no_doubt entry e = absurd cc

  files_are : (stored : Texts) → SameFiles (files_of (run_with first stored)) (with_stored stored opened)
  files_are [] file not_own = refl
  files_are (text ∷ texts) file not_own = refl

  whole : (P : Image → Type 0) → ((image : Image) → HasOnly (IsEither files doubt) image → P image)
      → (Q : Image → Type 0) → ((image : Image) → Q image → P image) → LeavesOnly g mid end Q → LeavesOnly g disk end P
  whole P from_found Q from_reached reached =
      only_both g disk mid end (HasOnly (IsEither files doubt)) Q P from_found from_reached has_opened.goes.moment has_opened.meanwhile reached

  -- where nothing was stored it finds what this opening left
  found_none : IsUnwritten old new → g.tells end ≡ true → ¬ HasRisen (g.faults disk) (g.faults end)
      → IsCalm (g.seen end) (g.may_leave end) opened has_opened.begun.first
      → SameFiles (opened_files (g.seen end)) opened
  found_none kept told still calm = by (open_list (g.seen disk)) refl
    where
      by : (list : List (List FileText)) → open_list (g.seen disk) ≡ list → SameFiles (opened_files (g.seen end)) opened
      by [] is =
          let wrote : new.wrote ≡ false = kept.wrote ∙ (has_opened.wrote ∙ ap has_any is) in
          let fresh : IsFresh new.journal = subst (λ (j : JournalValue D). IsFresh j) (sym kept.journal) has_opened.fresh in
          let there : end ≡ mid = has_closed.alone wrote fresh ∙ ap (λ (j : JournalValue D). j.disk) kept.journal in
          subst (λ (d : D). SameFiles (opened_files (g.seen d)) opened) (sym there)
          (has_opened.found (λ rose. still (subst (λ (d : D). HasRisen (g.faults disk) (g.faults d)) (sym there) rose)))
      by (entry ∷ entries) is =
          let settled = has_opened.begun.settled (λ none. let both = sym is ∙ none in cc) in
          found_whole g end opened told (subst (λ (d : Option (List FileText)). IsCalm (g.seen end) (g.may_leave end) opened d) settled calm)

  stays : (stored : Texts) → IsStore g mid new.journal (run_with first stored) → (stored ≡ [] → IsUnwritten old new)
      → ¬ HasRisen (g.faults disk) (g.faults end) → StaysCalm g files doubt stored disk end
  stays [] store kept still =
      let calm = has_closed.calm mid first store still in
      let told : g.tells end ≡ true = has_closed.goes.tells ∙ store.rests.tells in
      record {
        rest = has_opened.begun.first;
        calm = calm;
        none = λ some. absurd (some refl);
        within = λ none. has_opened.begun.within;
        found = found_none (kept refl) told still calm;
      }
  stays (text ∷ texts) store kept still =
      let calm = has_closed.calm mid (run_with first (text ∷ texts)) store still in
      record {
        rest = None;
        calm = calm;
        none = λ some. refl;
        within = λ none. absurd cc;
        found = found_whole g end (with_stored (text ∷ texts) opened) (has_closed.goes.tells ∙ store.rests.tells) calm;
      }

  served : (Answered : Answer → Type 0) (report : Report) → Serves g mounted Answered report old new
      → Served g files doubt Answered report disk end
  served Answered report serves =
      let stored : Texts = serves.answer.stored in
      let store : IsStore g mid new.journal (run_with first stored) = serves.committed mid first refl has_opened.begun.store in
      record {
        answer = serves.answer;
        answers = serves.answers;
        told = serves.told;
        crash =
            whole (MayBeLeft files doubt opened stored) (left_found files doubt opened has_opened.begun.first has_opened.begun.within stored)
            (IsReached (run_with first stored).files (run_with first stored).commits (run_with first stored).begun) (amid stored) (has_closed.always mid (run_with first stored) store);
        lasting = λ image is. behind stored image (has_closed.now mid (run_with first stored) store image is);
        shown = λ still. Stored (λ file not_own.
            has_closed.shown mid (run_with first stored) store
            (λ rose. still (risen_since (g.faults disk) (g.faults new.journal.disk) (g.faults end) (faults_since stored store) rose)) file not_own
            ∙ files_are stored file not_own);
        calm = stays stored store serves.kept;
      }
    where
      faults_since : (stored : Texts) → IsStore g mid new.journal (run_with first stored)
          → g.faults disk ≤ g.faults new.journal.disk
      faults_since [] store = store.risen
      faults_since (text ∷ texts) store = store.risen

  unserved : IsUnwritten old new → Unserved g files doubt disk end
  unserved kept =
      let store : IsStore g mid new.journal first = subst (λ (j : JournalValue D). IsStore g mid j first) (sym kept.journal) has_opened.begun.store in
      record {
        crash = whole (HasOnly (IsEither files doubt)) (λ image only. only) (IsReached opened [] first.begun) (λ image. amid [] image) (has_closed.always mid first store);
        untouched = λ none. still_read g disk end old new (record { alone = has_opened.alone none; wrote = has_opened.wrote ∙ ap has_any none.none; fresh = has_opened.fresh }) has_closed.alone kept;
        shown = λ still. Stored (has_closed.shown mid first store (λ rose. still (risen_since (g.faults disk) (g.faults new.journal.disk) (g.faults end) store.risen rose)));
        calm = stays [] store (λ none. kept);
      }

  failing : (Answered : Answer → Type 0) → HasRisen (g.faults old.journal.disk) (g.faults new.journal.disk)
      → FailsToStore g mounted Answered old new → serving.Unstored g files doubt Answered disk end
  failing Answered rose fails = record {
    answer = fails.answer;
    answers = fails.answers;
    some = fails.some;
    crash =
        whole (MayBeLeft files doubt opened stored) (left_found files doubt opened has_opened.begun.first has_opened.begun.within stored)
        (IsReached opened [] (after_begun first (entry_of stored) begun.doubt).begun) (λ image reached. some stored fails.some image (reached_begun files doubt opened has_opened.begun.first has_opened.begun.within (entry_of stored) image reached))
        (has_closed.always mid (after_begun first (entry_of stored) begun.doubt) begun.store);
    uncommitted = record {
      names = table_files (store_alone mounted);
      journal = new.journal;
      doubt = begun.doubt;
      rose = risen_since (g.faults disk) (g.faults old.journal.disk) (g.faults new.journal.disk) has_opened.goes.later rose;
      rests = begun.store.rests;
      goes = has_closed.goes;
      shown = has_closed.shown mid (after_begun first (entry_of stored) begun.doubt) begun.store;
      settled = λ still. has_closed.settled mid (after_begun first (entry_of stored) begun.doubt) begun.store still (inl fails.wrote);
      left = has_closed.rests mid (after_begun first (entry_of stored) begun.doubt) begun.store;
    };
  }
    where
      stored : Texts
      stored = fails.answer.stored

      begun : BeginsEntry g mid first (entry_of stored) new.journal
      begun = fails.begun mid first refl has_opened.begun.store

      some : (texts : Texts) → texts ≢ [] → (image : Image)
          → HasOnly (IsEither files doubt) image ⊎ HasOnly (IsEither opened (Some (entry_of texts))) image
          → MayBeLeft files doubt opened texts image
      some [] none image left = absurd (none refl)
      some (text ∷ texts) none image left = left

  pub serve : (Answered : Answer → Type 0) (result : Result code.Report Stop)
      → (result ≡ Err stops.DiskFault → HasRisen (g.faults old.journal.disk) (g.faults new.journal.disk))
      → Serving g mounted Answered result old new → Serve g files doubt Answered result disk end
  serve Answered (Ok report) cause does = served Answered (report_of report) does
  serve Answered (Err stops.Memory) cause does = unserved does
  serve Answered (Err stops.DiskFault) cause does = Storing (failing Answered (cause refl) does)
  serve Answered (Err stops.ReadFault) cause does = absurd does

-- ---- what is told of an open store, which stays as it is

pub unwritten_itself : {D P : Type 0} (core : Core D P) → IsUnwritten core core
unwritten_itself core = record { journal = refl; history = refl; start = refl; keys = refl; wrote = refl }

-- what is told of one that wasn't written to, whatever its matcher did
pub quiet_serves : {D P : Type 0} (g : Ghosts D) (mounted : List MountedFile) (Answered : Answer → Type 0)
    (report : Report) (before after : Core D P) → IsUnwritten before after → Answered (tells report)
    → Serves g mounted Answered report before after
quiet_serves {D} g mounted Answered report before after kept answers = record {
  answer = tells report;
  answers = answers;
  told = refl;
  committed = λ opened run names store. subst (λ (j : JournalValue D). IsStore g opened j run) (sym kept.journal) store;
  kept = λ nothing. kept;
  done = λ some. absurd (some refl);
}

pub told_serves : {D P : Type 0} (g : Ghosts D) (mounted : List MountedFile) (Answered : Answer → Type 0)
    (report : Report) (core : Core D P) → Answered (tells report) → Serves g mounted Answered report core core
told_serves g mounted Answered report core answers =
    quiet_serves g mounted Answered report core core (unwritten_itself core) answers

-- ---- other answers

pub serving_weaker : {D C : Type 0} (g : Ghosts D) (mounted : List MountedFile) (P Q : Answer → Type 0)
    (result : Result code.Report Stop) (before after : Core D C) → ((answer : Answer) → P answer → Q answer)
    → Serving g mounted P result before after → Serving g mounted Q result before after
serving_weaker g mounted P Q (Ok report) before after follows s =
    record {
      answer = s.answer;
      answers = follows s.answer s.answers;
      told = s.told;
      committed = s.committed;
      kept = s.kept;
      done = s.done;
    }
serving_weaker g mounted P Q (Err stops.Memory) before after follows s = s
serving_weaker g mounted P Q (Err stops.DiskFault) before after follows s =
    record { answer = s.answer; answers = follows s.answer s.answers; some = s.some; begun = s.begun; wrote = s.wrote }
serving_weaker g mounted P Q (Err stops.ReadFault) before after follows s = absurd s

pub serve_weaker : {D : Type 0} (g : Ghosts D) (files : Image) (doubt : Option (List FileText)) (P Q : Answer → Type 0)
    (result : Result code.Report Stop) (before after : D)
    → ((answer : Answer) → P answer → Q answer) → Serve g files doubt P result before after
    → Serve g files doubt Q result before after
serve_weaker g files doubt P Q (Ok report) before after follows s =
    record {
      answer = s.answer;
      answers = follows s.answer s.answers;
      told = s.told;
      crash = s.crash;
      lasting = s.lasting;
      shown = s.shown;
      calm = s.calm;
    }
serve_weaker g files doubt P Q (Err stops.Memory) before after follows s = s
serve_weaker g files doubt P Q (Err stops.DiskFault) before after follows (Storing s) =
    Storing (record { answer = s.answer; answers = follows s.answer s.answers; some = s.some; crash = s.crash; uncommitted = s.uncommitted })
serve_weaker g files doubt P Q (Err stops.DiskFault) before after follows (Seeking left) = Seeking left
serve_weaker g files doubt P Q (Err stops.ReadFault) before after follows s = s

-- an open store reads no input
pub serving_no_read : {D C : Type 0} (g : Ghosts D) (mounted : List MountedFile) (P : Answer → Type 0)
    (result : Result code.Report Stop) (before after : Core D C) → Serving g mounted P result before after
    → result ≢ Err stops.ReadFault
serving_no_read g mounted P result before after s is =
    subst (λ (r : Result code.Report Stop). Serving g mounted P r before after) is s

-- a run without an answer whose disk didn't fail stored nothing
pub serve_unserved : {D : Type 0} (g : Ghosts D) (files : Image) (doubt : Option (List FileText)) (P : Answer → Type 0)
    (result : Result code.Report Stop) (before after : D)
    → Serve g files doubt P result before after → (result ≡ Err stops.Memory) ⊎ (result ≡ Err stops.ReadFault)
    → Unserved g files doubt before after
serve_unserved g files doubt P result before after s (inl is) =
    subst (λ (r : Result code.Report Stop). Serve g files doubt P r before after) is s
serve_unserved g files doubt P result before after s (inr is) =
    subst (λ (r : Result code.Report Stop). Serve g files doubt P r before after) is s

-- without a fault of the disk it is calm, whatever was stored
pub serve_calm : {D : Type 0} (g : Ghosts D) (files : Image) (doubt : Option (List FileText)) (P : Answer → Type 0)
    (result : Result code.Report Stop) (before after : D)
    → Serve g files doubt P result before after
    → (result ≡ Err stops.DiskFault → HasRisen (g.faults before) (g.faults after))
    → ¬ HasRisen (g.faults before) (g.faults after) → (stored : Texts) × StaysCalm g files doubt stored before after
serve_calm g files doubt P (Ok report) before after s cause still = (s.answer.stored, s.calm still)
serve_calm g files doubt P (Err stops.Memory) before after s cause still = ([], s.calm still)
serve_calm g files doubt P (Err stops.DiskFault) before after s cause still = absurd (still (cause refl))
serve_calm g files doubt P (Err stops.ReadFault) before after s cause still = ([], s.calm still)

-- ---- where the store isn't asked

-- a calm disk that is left alone
pub calm_only : {D : Type 0} (g : Ghosts D) (disk : D) (files : Image) (doubt : Option (List FileText))
    → IsCalm (g.seen disk) (g.may_leave disk) files doubt
    → EveryImage (g.may_leave disk) (HasOnly (IsEither files doubt))
calm_only g disk files doubt calm image is =
    record {
      not_broken = calm.not_broken image (λ file own. is file);
      each = λ outcome has. calm.outcomes image outcome is has;
    }

-- and stays so
pub alone_calm : {D : Type 0} (g : Ghosts D) (disk : D) (files : Image) (doubt : Option (List FileText))
    → g.tells disk ≡ true → IsCalm (g.seen disk) (g.may_leave disk) files doubt → StaysCalm g files doubt [] disk disk
alone_calm g disk files doubt told calm =
    let opened = opened_files (g.seen disk) in
    let on = calm_on (g.seen disk) (g.may_leave disk) files doubt opened calm (calm_files (g.seen disk) (g.may_leave disk) files doubt calm (g.read_is_image disk told)) in
    record {
      rest = on.first;
      calm = on.calm;
      none = λ some. absurd (some refl);
      within = λ none. on.within;
      found = λ file not_own. refl;
    }

-- also where it was only read
pub read_calm : {D : Type 0} (g : Ghosts D) (disk end : D) (files : Image) (doubt : Option (List FileText))
    → g.tells disk ≡ true → IsCalm (g.seen disk) (g.may_leave disk) files doubt → OnlyReads g disk end
    → StaysCalm g files doubt [] disk end
read_calm g disk end files doubt told calm reads =
    let stays = alone_calm g disk files doubt told calm in
    record {
      rest = stays.rest;
      calm = calm_kept (g.seen disk) (g.seen end) (g.may_leave disk) (g.may_leave end) (opened_files (g.seen disk)) stays.rest (reads.same told) (reads.images told) stays.calm;
      none = stays.none;
      within = stays.within;
      found = λ file not_own. ap (λ (seen : Image). opened_files seen file) (reads.same told);
    }

pub alone_served : {D : Type 0} (g : Ghosts D) (disk : D) (files : Image) (doubt : Option (List FileText))
    (Answered : Answer → Type 0) (report : Report)
    → g.tells disk ≡ true → IsCalm (g.seen disk) (g.may_leave disk) files doubt → Answered (tells report)
    → Served g files doubt Answered report disk disk
alone_served g disk files doubt Answered report told calm answers = record {
  answer = tells report;
  answers = answers;
  told = refl;
  crash = only_now g disk (HasOnly (IsEither files doubt)) told (calm_only g disk files doubt calm);
  lasting = calm_only g disk files doubt calm;
  shown = λ still. Alone refl (λ file not_own. refl);
  calm = λ still. alone_calm g disk files doubt told calm;
}

pub alone_unserved : {D : Type 0} (g : Ghosts D) (disk : D) (files : Image) (doubt : Option (List FileText))
    → g.tells disk ≡ true → IsCalm (g.seen disk) (g.may_leave disk) files doubt → Unserved g files doubt disk disk
alone_unserved g disk files doubt told calm = record {
  crash = only_now g disk (HasOnly (IsEither files doubt)) told (calm_only g disk files doubt calm);
  untouched = λ none. OnlyReads-none g disk;
  shown = λ still. Alone refl (λ file not_own. refl);
  calm = λ still. alone_calm g disk files doubt told calm;
}

-- and so is one that is handed on as it came
pub handed_calm : {D : Type 0} (g : Ghosts D) (disk end : D) (files : Image) (doubt : Option (List FileText))
    → end ≡ disk → g.tells disk ≡ true → IsCalm (g.seen disk) (g.may_leave disk) files doubt
    → (stored : Texts) × StaysCalm g files doubt stored disk end
handed_calm g disk end files doubt still told calm =
    ([], subst (λ d. StaysCalm g files doubt [] disk d) (sym still) (alone_calm g disk files doubt told calm))

-- ---- where the store isn't opened

-- what is told of files that were read
pub refused_served : {D : Type 0} (g : Ghosts D) (disk end : D) (files : Image) (doubt : Option (List FileText))
    (Answered : Answer → Type 0) (report : Report) → LeavesOnly g disk end (HasOnly (IsEither files doubt))
    → EveryImage (g.may_leave end) (HasOnly (IsEither files doubt))
    → SameFiles (g.seen end) (opened_files (g.seen disk))
    → (¬ HasRisen (g.faults disk) (g.faults end) → StaysCalm g files doubt [] disk end) → Answered (tells report)
    → Served g files doubt Answered report disk end
refused_served g disk end files doubt Answered report meanwhile now shown calm answers = record {
  answer = tells report;
  answers = answers;
  told = refl;
  crash = meanwhile;
  lasting = now;
  shown = λ still. Stored (λ file not_own. shown file not_own);
  calm = calm;
}

-- ---- what is told without the store

pub alone_serve : {D : Type 0} {E : Type 0} (g : Ghosts D) (disk : D) (files : Image) (doubt : Option (List FileText))
    (Answered : Answer → Type 0) (made : Result code.Report E)
    → g.tells disk ≡ true → IsCalm (g.seen disk) (g.may_leave disk) files doubt
    → IfOk made (λ report. Answered (tells (report_of report)))
    → Serve g files doubt Answered (or_memory made) disk disk
alone_serve g disk files doubt Answered (Ok report) told calm answers =
    alone_served g disk files doubt Answered (report_of report) told calm answers
alone_serve g disk files doubt Answered (Err why) told calm answers = alone_unserved g disk files doubt told calm

pub alone_stopped : {D : Type 0} (g : Ghosts D) (disk : D) (files : Image) (doubt : Option (List FileText))
    (Answered : Answer → Type 0) (stop : Stop)
    → g.tells disk ≡ true → IsCalm (g.seen disk) (g.may_leave disk) files doubt → stop ≢ stops.DiskFault
    → Serve g files doubt Answered (Err stop) disk disk
alone_stopped g disk files doubt Answered stops.Memory told calm own = alone_unserved g disk files doubt told calm
alone_stopped g disk files doubt Answered stops.DiskFault told calm own = absurd (own refl)
alone_stopped g disk files doubt Answered stops.ReadFault told calm own = alone_unserved g disk files doubt told calm

-- what is told without the store, as the call that hands the disk on has it
pub handed_on : {D : Type 0} {E : Type 0} (g : Ghosts D) (disk end : D) (files : Image) (doubt : Option (List FileText))
    (Answered : Answer → Type 0) (made : Result code.Report E) (result : Result code.Report Stop)
    → result ≡ or_memory made → end ≡ disk → g.tells disk ≡ true → IsCalm (g.seen disk) (g.may_leave disk) files doubt
    → IfOk made (λ report. Answered (tells (report_of report))) → Serve g files doubt Answered result disk end
handed_on g disk end files doubt Answered made result is still told calm answers =
    subst (λ e. Serve g files doubt Answered result disk e) (sym still) (subst (λ (r : Result code.Report Stop). Serve g files doubt Answered r disk disk) (sym is) (alone_serve g disk files doubt Answered made told calm answers))
