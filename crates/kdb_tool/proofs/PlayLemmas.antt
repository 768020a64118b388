-- What the sessions of a script did to a disk, from the opening of the store to its close.
use Rattle.std.proofs.Common.{◌≡◌, ◌⊎◌, inl, inr, ℕ, ◌<◌, ◌≤◌, true, List, [], ◌∷◌, Option, Some, None, Result, Ok, Err, IfOk, IfSome, refl, sym, ap, subst, ◌∙◌, arith}
use Rattle.all_formats.specs.Meanings as all
use Rattle.batch_script.specs.declared.steps.Script.{Script}
use Rattle.batch_run.specs.Played.{IsPlayable, IsPlayed}
use Rattle.batch_run.specs.declared.playing.Played.{Played}
use Rattle.intent_journal.specs.Opened.{open_list, opened_files}
use Rattle.intent_journal.specs.Opens.{has_any}
use Rattle.journal_steps.specs.Moments.{LeavesOnly}
use Rattle.intent_journal.specs.Outcomes.{HasOnly}
use Rattle.journal_steps.specs.Outcomes.{SameFiles, IsEither}
use Rattle.intent_journal.specs.States.{IsCalm}
use Rattle.journal_codec.specs.declared.files.FileText.{FileText}
use Rattle.kdb_handle.specs.Closing.{IsHandedOn}
use Rattle.kdb_handle.specs.Opened.{store_at}
use Rattle.kdb_handle.specs.Rising.{HasRisenBy}
use Rattle.kdb_handle.specs.Runs.{RunsBy}
use Rattle.kdb_handle.specs.Story.{Told, BeginsNone, commits_of, failures_in, refusals_in}
use Rattle.kdb_handle.specs.declared.replies.Transcripts.{Transcripts}
use Rattle.kdb_outside.proofs.Frames.{GoesOn-then}
use Rattle.kdb_outside.proofs.Rises.{risen_since}
use Rattle.kdb_outside.specs.Faults.{HasRisen}
use Rattle.kdb_outside.specs.Frames.{GoesOn, OnlyReads}
use Rattle.kdb_outside.specs.Images.{Image}
use Rattle.kdb_outside.specs.declared.disks.Disk.{Ghosts}
use Rattle.model_batch.specs.Fair.{count_failed, count_refused}
use Rattle.model_batch.specs.Scripts.{IsFairScript, reply_rows}
use Rattle.model_crashes.proofs.Moments.{only_both}
use Rattle.model_crashes.specs.Runs.{Run, IsReached, files_of, new_run}
use Rattle.model_files.specs.Files.{table_files}
use Rattle.model_history.specs.History.{Commit}
use Rattle.mounted_files.specs.Visible.{visible_keys}
use Rattle.mounted_files.specs.Opening.{IsOpened}
use Rattle.mounted_files.specs.declared.files.MountedFile.{MountedFile}
use Rattle.store_core.specs.declared.cores.Core.{Core}
use Rattle.kdb_tool.proofs.CountLemmas.{faults-count, status-fault, status-none}
use Rattle.kdb_tool.specs.Plays.{Plays, report_by}
use Rattle.kdb_tool.specs.Reported.{IsReported, OfReplies, StoresNone}
use Rattle.kdb_tool.specs.Working.{AnswersBy, HasEnded, HasPlayed, NotPlayed, Works}
use Rattle.tool_commands.specs.Report.{IsAnswered, Report}
use Rattle.tool_commands.specs.StepView.{report_of}
use Rattle.tool_commands.specs.declared.reports.Report as code
use Rattle.tool_single.proofs.CrashLemmas.{reached_none}
use Rattle.tool_single.proofs.ServeLemmas.{HasOpened, found_whole}
use Rattle.tool_single.specs.Answer.{Answer}
use Rattle.tool_single.specs.Crashing.{HasNothingToWrite, Stored}
use Rattle.tool_single.specs.Refusing.{Tells}
use Rattle.tool_single.specs.Serving.{Serve}
use Rattle.tool_single.specs.Serving as serving
use Rattle.tool_single.specs.Sets.{formats}
use Rattle.tool_single.specs.declared.answers.Ended.{Ended}
use Rattle.tool_single.specs.declared.answers.Stop.{Stop}
use Rattle.tool_single.specs.declared.answers.Stop.TheVariants as stops

-- ---- counts

-- a count that rose later by so much rose since earlier by as much
rises_since : (n a b c : ℕ) → a ≤ b → HasRisenBy n b c → HasRisenBy n a c
rises_since n a b c le (inl rose) = inl (omega (arith, le, rose))
rises_since n a b c le (inr at_top) =
    let later = at_top.later in inr (record { later = omega (arith, le, later); rose = risen_since a b c le at_top.rose; top = at_top.top })

-- one that rose by something rose
rose : (n before now : ℕ) → 0 < n → HasRisenBy n before now → HasRisen before now
rose n before now some (inl by_so_much) = inl (omega (arith, some, by_so_much))
rose n before now some (inr at_top) = at_top.rose

-- one that rose by so much didn't fall
rises-later : (n before now : ℕ) → HasRisenBy n before now → before ≤ now
rises-later n before now (inl by_so_much) = omega (arith, by_so_much)
rises-later n before now (inr at_top) = at_top.later

-- what is known of the replies, where there are some
pub at_some : (P : Transcripts → Type 0) (o : Option Transcripts) (transcripts : Transcripts) → o ≡ Some transcripts
    → IfSome o P → P transcripts
at_some P o transcripts there holds = subst (λ (x : Option Transcripts). IfSome x P) there holds

-- ---- on a calm disk

module _ {D P : Type 0} (g : Ghosts D) (refused : P → ℕ) (disk : D) (files : Image) (doubt : Option (List FileText)) (script : Script) (mounted : List MountedFile) (core : Core D P) (played : Played D P)
    (telling : g.tells disk ≡ true) (is_opened : IsOpened all.Reads all.IsBadAt (opened_files (g.seen disk)) mounted) (has_opened : HasOpened g disk files doubt (table_files (store_at mounted)) core) (is : IsPlayed formats g refused mounted script core played) where
  abbrev opened : Image
  opened = opened_files (g.seen disk)

  abbrev mid : D
  mid = core.journal.disk

  abbrev end : D
  end = played.closed.disk

  abbrev first : Run
  first = new_run (table_files (store_at mounted)) opened (g.faults disk) has_opened.begun.first

  -- an image stands for files that were found, or that a run reached
  abbrev Found : Image → Type 0
  Found = HasOnly (IsEither files doubt)

  abbrev Reached : Run → Image → Type 0
  Reached run = IsReached run.files run.commits run.begun

  handed : IsHandedOn formats g mounted mid first mid is.story end
  handed = is.disk mid first refl has_opened.begun.store

  -- nothing was written where the opening had nothing to write and no set was begun
  untouched : BeginsNone is.story → HasNothingToWrite (g.seen disk) → OnlyReads g disk end
  untouched begins_none none =
      subst (OnlyReads g disk) (sym (is.left_alone begins_none (has_opened.wrote ∙ ap has_any none.none) has_opened.fresh)) (has_opened.alone none)

  quiet_since : ¬ HasRisen (g.faults disk) (g.faults end) → ¬ HasRisen (g.faults mid) (g.faults end)
  quiet_since still =
      λ rose. still (risen_since (g.faults disk) (g.faults mid) (g.faults end) has_opened.goes.later rose)

  plays : (transcripts : Transcripts) → played.transcripts ≡ Some transcripts
      → Plays g files doubt (refused core.patterns) (refused played.closed.patterns) script transcripts disk end
  plays transcripts there =
      let failures = at_some (λ t. failures_in is.story ≡ count_failed (reply_rows script t)) played.transcripts transcripts there is.failures in
      let refusals = at_some (λ t. refusals_in is.story ≡ count_refused (reply_rows script t)) played.transcripts transcripts there is.refusals in
      let failed = subst (λ n. HasRisenBy n (g.faults mid) (g.faults end)) failures is.failed in
      record {
        mounted = mounted;
        opened = is_opened;
        story = is.story;
        legal = is.legal;
        fair = at_some (IsFairScript formats mounted (commits_of is.story) script) played.transcripts transcripts there is.fair;
        failures = failures;
        refusals = refusals;
        failed = rises_since (count_failed (reply_rows script transcripts)) (g.faults disk) (g.faults mid) (g.faults end) has_opened.goes.later failed;
        refused = subst (λ n. HasRisenBy n (refused core.patterns) (refused played.closed.patterns)) refusals is.refused_by;
        found = has_opened.begun.first;
        within = has_opened.begun.within;
        last = handed.last;
        by_story = handed.by_story;
        crash =
            only_both g disk mid end Found (Reached handed.last) (λ image. Found image ⊎ Reached handed.last image) (λ image only. inl only) (λ image reached. inr reached)
            has_opened.goes.moment has_opened.meanwhile handed.any_moment;
        lasting = handed.now;
        shown = λ still. handed.shown (quiet_since still);
        calm = handed.calm;
        untouched = untouched;
      }

  -- ---- without memory for the replies the story is empty

  told_end : g.tells end ≡ true
  told_end = is.goes.tells ∙ (has_opened.goes.tells ∙ telling)

  still_first : is.story ≡ [] → handed.last ≡ first
  still_first none =
      subst (λ (story : List Told). RunsBy formats (store_at mounted) (visible_keys mounted) first story handed.last) none handed.by_story

  begins_none : is.story ≡ [] → BeginsNone is.story
  begins_none none = record { commits = ap commits_of none; failures = ap failures_in none }

  found_again : is.story ≡ [] → ¬ HasRisen (g.faults disk) (g.faults end)
      → IsCalm (g.seen end) (g.may_leave end) opened has_opened.begun.first
      → SameFiles (opened_files (g.seen end)) opened
  found_again none still calm = by (open_list (g.seen disk)) refl
    where
      by : (list : List (List FileText)) → open_list (g.seen disk) ≡ list → SameFiles (opened_files (g.seen end)) opened
      by [] there =
          let same : end ≡ mid = is.left_alone (begins_none none) (has_opened.wrote ∙ ap has_any there) has_opened.fresh in
          subst (λ (d : D). SameFiles (opened_files (g.seen d)) opened) (sym same)
          (has_opened.found (λ rose. still (subst (λ (d : D). HasRisen (g.faults disk) (g.faults d)) (sym same) rose)))
      by (entry ∷ entries) there =
          let settled = has_opened.begun.settled (λ nothing. let both = sym there ∙ nothing in cc) in
          found_whole g end opened told_end (subst (λ (d : Option (List FileText)). IsCalm (g.seen end) (g.may_leave end) opened d) settled calm)

  unserved : is.story ≡ [] → serving.Unserved g files doubt disk end
  unserved none =
      let same = still_first none in
      record {
        crash = only_both g disk mid end Found (Reached first) Found (λ image only. only)
            (λ image reached. reached_none files doubt opened has_opened.begun.first has_opened.begun.within image reached)
            has_opened.goes.moment has_opened.meanwhile (subst (λ (run : Run). LeavesOnly g mid end (Reached run)) same handed.any_moment);
        untouched = untouched (begins_none none);
        shown = λ still. Stored (subst (λ (run : Run). SameFiles (g.seen end) (files_of run)) same (handed.shown (quiet_since still)));
        calm = λ still.
            let calm : IsCalm (g.seen end) (g.may_leave end) opened has_opened.begun.first = subst (λ (run : Run). IsCalm (g.seen end) (g.may_leave end) (files_of run) run.doubt) same (handed.calm still) in
            record {
              rest = has_opened.begun.first;
              calm = calm;
              none = λ some. absurd (some refl);
              within = λ nothing. has_opened.begun.within;
              found = found_again none still calm;
            };
      }

  works_by : (Answered : Answer → Type 0) (IsAsked : Script → Type 0) (answer : Result code.Report Stop)
      → IsAsked script → (o : Option Transcripts) → played.transcripts ≡ o
      → AnswersBy mounted script played.closed.history.commits o answer
      → Works g files doubt (refused core.patterns) (refused played.closed.patterns) Answered IsAsked answer disk end
  unfolding plays
  works_by Answered IsAsked answer asked (Some transcripts) there told = HasPlayed script asked (record {
    transcripts = transcripts;
    plays = plays transcripts there;
    told = subst (λ (history : List Commit). Tells (report_by script transcripts mounted history) answer) is.history told;
  })
  works_by Answered IsAsked answer asked None there stopped =
      NotPlayed (subst (λ (r : Result code.Report Stop). Serve g files doubt Answered r disk end) (sym stopped) (unserved (is.none there)))

  pub works : (Answered : Answer → Type 0) (IsAsked : Script → Type 0) (answer : Result code.Report Stop)
      → IsAsked script
      → AnswersBy mounted script played.closed.history.commits played.transcripts answer
      → Works g files doubt (refused core.patterns) (refused played.closed.patterns) Answered IsAsked answer disk end
  works Answered IsAsked answer asked told = works_by Answered IsAsked answer asked played.transcripts refl told

-- what came of an open store is what came of its disk
pub works-ended : {D P : Type 0} (g : Ghosts D) (refused : P → ℕ) (disk : D) (files : Image)
    (doubt : Option (List FileText)) (script : Script) (mounted : List MountedFile) (core : Core D P)
    (ended : Ended D P) (before : ℕ)
    → g.tells disk ≡ true → IsOpened all.Reads all.IsBadAt (opened_files (g.seen disk)) mounted
    → HasOpened g disk files doubt (table_files (store_at mounted)) core → HasEnded g refused mounted script core ended
    → refused core.patterns ≡ before
    → (Answered : Answer → Type 0) (IsAsked : Script → Type 0) → IsAsked script
    → Works g files doubt before (refused ended.patterns) Answered IsAsked ended.answer disk ended.disk
works-ended {D} {P} g refused disk files doubt script mounted core ended before telling is_opened has_opened ends same Answered IsAsked asked =
    let done = works g refused disk files doubt script mounted core ends.played telling is_opened has_opened ends.is Answered IsAsked ended.answer asked ends.told in
    subst (λ (d : D). Works g files doubt before (refused ended.patterns) Answered IsAsked ended.answer disk d) (sym ends.disk)
    (subst (λ (p : P). Works g files doubt before (refused p) Answered IsAsked ended.answer disk ends.played.closed.disk) (sym ends.patterns)
    (subst (λ (n : ℕ). Works g files doubt n (refused ends.played.closed.patterns) Answered IsAsked ended.answer disk ends.played.closed.disk) same done))

-- ---- on any disk

module _ {D P : Type 0} (g : Ghosts D) (refused : P → ℕ) (disk : D) (script : Script) (mounted : List MountedFile) (core : Core D P) (ended : Ended D P) (goes : GoesOn g disk core.journal.disk) (ends : HasEnded g refused mounted script core ended) where
  -- a set that failed is counted
  failed : IsPlayable script → (transcripts : Transcripts) → ends.played.transcripts ≡ Some transcripts
      → (report_by script transcripts mounted ends.played.closed.history.commits).status ≡ 74
      → HasRisen (g.faults disk) (g.faults ends.played.closed.disk)
  failed playable transcripts there is =
      let fair = at_some (IsFairScript formats mounted (commits_of ends.is.story) script) ends.played.transcripts transcripts there ends.is.fair in
      let failures = at_some (λ t. failures_in ends.is.story ≡ count_failed (reply_rows script t)) ends.played.transcripts transcripts there ends.is.failures in
      let some = faults-count script transcripts playable.ordered fair.each (status-fault transcripts.phases is) in
      risen_since (g.faults disk) (g.faults core.journal.disk) (g.faults ends.played.closed.disk) goes.later
      (rose (failures_in ends.is.story) (g.faults core.journal.disk) (g.faults ends.played.closed.disk) (omega (arith, failures, some)) ends.is.failed)

  pub reported-ended : IsPlayable script
      → IfOk ended.answer (λ report. IsReported (HasRisen (g.faults disk) (g.faults ended.disk)) (report_of report))
  reported-ended playable =
      subst (λ (d : D). IfOk ended.answer (λ report. IsReported (HasRisen (g.faults disk) (g.faults d)) (report_of report))) (sym ends.disk) (by ends.played.transcripts refl ended.answer ends.told)
    where
      by : (o : Option Transcripts) → ends.played.transcripts ≡ o → (r : Result code.Report Stop)
          → AnswersBy mounted script ends.played.closed.history.commits o r
          → IfOk r (λ report. IsReported (HasRisen (g.faults disk) (g.faults ends.played.closed.disk)) (report_of report))
      by (Some transcripts) there (Ok report) told =
          OfReplies (ap (λ (made : Report). made.err) told) (λ is. failed playable transcripts there (sym (ap (λ (made : Report). made.status) told) ∙ is))
      by (Some transcripts) there (Err stop) told = tt
      by None there (Ok report) same = absurd cc
      by None there (Err stop) same = tt

  -- no answer is known but for want of memory
  pub stops-ended : (stop : Stop) → ended.answer ≡ Err stop → stop ≡ stops.Memory
  stops-ended stop is =
      by ends.played.transcripts (subst (λ (r : Result code.Report Stop). AnswersBy mounted script ends.played.closed.history.commits ends.played.transcripts r) is ends.told)
    where
      by : (o : Option Transcripts) → AnswersBy mounted script ends.played.closed.history.commits o (Err stop)
          → stop ≡ stops.Memory
      by (Some transcripts) told = told
      by None same = cc

  -- the status of replies is 0, or that of no report of its own
  pub stores-none-ended : StoresNone g ended.answer disk ended.disk
  stores-none-ended = by ends.played.transcripts ended.answer ends.told
    where
      by : (o : Option Transcripts) (r : Result code.Report Stop)
          → AnswersBy mounted script ends.played.closed.history.commits o r → StoresNone g r disk ended.disk
      by (Some transcripts) (Ok report) told = λ some own.
          let status = ap (λ (made : Report). made.status) told in
          absurd (some (status ∙ status-none transcripts.phases (subst IsAnswered status own)))
      by (Some transcripts) (Err stop) told = tt
      by None (Ok report) same = absurd cc
      by None (Err stop) same = tt

  pub goes-ended : GoesOn g disk ended.disk
  goes-ended =
      subst (GoesOn g disk) (sym ends.disk) (GoesOn-then g disk core.journal.disk ends.played.closed.disk goes ends.is.goes)

  pub later-ended : refused core.patterns ≤ refused ended.patterns
  later-ended = subst (λ (p : P). refused core.patterns ≤ refused p) (sym ends.patterns)
      (rises-later (refusals_in ends.is.story) (refused core.patterns) (refused ends.played.closed.patterns) ends.is.refused_by)
