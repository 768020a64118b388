-- How a batch ends, from the answer that was worked out and what became of it on out and err.
use Rattle.std.specs.Prelude.{◌≡◌, ◌≢◌, ◌⊎◌, ℕ, zero, suc, ◌++◌, List, [], take, Option, Some, None, Result, Ok, Err, IfOk}
use Rattle.std.proofs.Common.{refl, sym, ap, ◌∙◌, subst, inl, inr, arith}
use Rattle.batch_script.specs.declared.steps.Script.{Script}
use Rattle.intent_journal.specs.Opened.{opened_files}
use Rattle.journal_codec.specs.declared.files.FileText.{FileText}
use Rattle.kdb_handle.specs.Story.{commits_of}
use Rattle.kdb_outside.specs.Faults.{HasRisen}
use Rattle.kdb_outside.specs.Frames.{OnlyReads}
use Rattle.kdb_outside.specs.Images.{Image}
use Rattle.kdb_outside.specs.SinkChange.{SinkChange as Change}
use Rattle.kdb_outside.specs.declared.disks.Disk.{Ghosts}
use Rattle.store_lines.specs.Lines.{disk_fault, out_of_memory}
use Rattle.kdb_tool.specs.Ends.{EndsByJournal, EndsInFault, EndsWithoutMemory, GivesText, TellsOfJournal}
use Rattle.kdb_tool.specs.Plays.{report_by}
use Rattle.kdb_tool.specs.Reported.{IsOfDisk, IsReported, OfReplies, Own, StoresNone}
use Rattle.kdb_tool.specs.RunsBatch.{Played, RanBatch, TellsPlayed, Unplayed, Without}
use Rattle.kdb_tool.specs.Scripts.{AsksFor}
use Rattle.kdb_tool.specs.Unplayed.{AnswersUnplayed, NotOpened, ScriptRefused, WordsRefused}
use Rattle.kdb_tool.specs.Unplayed as unplayed
use Rattle.kdb_tool.specs.Working.{HasPlayed, NotPlayed, PlaysTold, Works}
use Rattle.tool_commands.specs.Lines.{read_fault}
use Rattle.tool_commands.specs.Report.{IsAnswered, Report, warned}
use Rattle.tool_commands.specs.StepView.{report_of}
use Rattle.tool_commands.specs.declared.reports.Report as code
use Rattle.tool_single.proofs.EndLemmas.{ended, fault_status, given, put_front, without_out}
use Rattle.tool_single.specs.Answer.{Answer}
use Rattle.tool_single.specs.Ending.{ending, stopped}
use Rattle.tool_single.specs.Ends.{EndsRefused, FaultCause, LosesSink, NoMemory, OfDisk, OfErr, OfInput, OfOut, Refused, SinkFails}
use Rattle.tool_single.specs.Outcome.{Delivers, ErrFails, Failed, Gains, GainsFront, Gives, OutFails, Whole}
use Rattle.tool_single.specs.Ran.{EndsWithout, Follows}
use Rattle.tool_single.specs.Refusing.{Tells}
use Rattle.tool_single.specs.Serving.{Failing, Seeking, Serve, Served, Storing}
use Rattle.tool_single.specs.Serving as serving
use Rattle.tool_single.specs.declared.answers.Stop.{Stop}
use Rattle.tool_single.specs.declared.answers.Stop.TheVariants as stops

not_both : (status : ℕ) → status ≡ 70 → status ≢ 74
not_both status memory fault = omega (arith, memory, fault)

module _ (status : ℕ) (out err : Change) where
  -- a run that ended in no fault gave its answer whole
  whole : (report : Report) → Delivers report status out err → status ≢ 74 → Gives report status out err
  whole report (Whole gives) no_fault = gives
  whole report (OutFails loses) no_fault = absurd (no_fault loses.status_is)
  whole report (ErrFails loses) no_fault = absurd (no_fault loses.status_is)

  -- ---- refused words

  refused_whole : (report : Report) → Delivers report status out err → EndsRefused report status out err
  refused_whole report (Whole gives) = Refused gives
  refused_whole report (OutFails loses) = SinkFails (loses.status_is, inl loses.out_failed)
  refused_whole report (ErrFails loses) = SinkFails (loses.status_is, inr loses.err_failed)

  refused_none : (report : Report) → Delivers (warned 70 out_of_memory) status out err
      → EndsRefused report status out err
  refused_none report (Whole gives) = NoMemory gives.status_is
  refused_none report (OutFails loses) = SinkFails (loses.status_is, inl loses.out_failed)
  refused_none report (ErrFails loses) = SinkFails (loses.status_is, inr loses.err_failed)

  pub refused-ends : (report : Report) (answer : Result code.Report Stop) → Tells report answer
      → Delivers (ending answer) status out err → EndsRefused report status out err
  refused-ends report (Ok made) told delivers =
      refused_whole report (subst (λ (r : Report). Delivers r status out err) told delivers)
  refused-ends report (Err stop) is delivers =
      refused_none report (subst (λ (s : Stop). Delivers (stopped s) status out err) is delivers)

  -- ---- want of memory

  text_given : (failed : Type 0) (report : Report) → IsReported failed report → Gives report status out err
      → status ≡ 70 → GivesText 70 status out err
  text_given failed report (Own own) gives is = absurd (own.0 (sym gives.status_is ∙ is))
  text_given failed report (OfReplies quiet fails) gives is =
      (report.out, record { status_is = is; out_gains = gives.out_gains; err_gains = subst (λ (text : List ℕ). Gains err.held_before err.held_now text) quiet gives.err_gains })

  pub without-memory : (failed : Type 0) (answer : Result code.Report Stop)
      → IfOk answer (λ report. IsReported failed (report_of report)) → Delivers (ending answer) status out err
      → EndsWithoutMemory status out err
  without-memory failed (Ok report) reported delivers =
      λ is. inr (text_given failed (report_of report) reported (whole (report_of report) delivers (not_both status is)) is)
  without-memory failed (Err stops.Memory) reported delivers =
      λ is. inl (whole (warned 70 out_of_memory) delivers (not_both status is))
  without-memory failed (Err stops.DiskFault) reported delivers =
      λ is. absurd (not_both status is (fault_status disk_fault status out err delivers))
  without-memory failed (Err stops.ReadFault) reported delivers =
      λ is. absurd (not_both status is (fault_status read_fault status out err delivers))

  -- ---- faults

  module _ (rose asked input_failed : Type 0) where
    abbrev Cause : Type 0
    Cause = FaultCause (rose × asked) input_failed status out err ⊎ ((rose × asked) × GivesText 74 status out err)

    by_sinks : (report : Report) → Delivers report status out err → (Gives report status out err → Cause) → Cause
    by_sinks report (Whole gives) by_whole = by_whole gives
    by_sinks report (OutFails loses) by_whole = inl (OfOut loses.out_failed loses.err_gains)
    by_sinks report (ErrFails loses) by_whole = inl (OfErr loses.err_failed)

    by_report : (report : Report) → IsReported rose report → (report.status ≡ 74 → asked) → Gives report status out err
        → status ≡ 74 → Cause
    by_report report (Own own) asks gives is = absurd (own.1 (sym gives.status_is ∙ is))
    by_report report (OfReplies quiet fails) asks gives is =
        let fault = sym gives.status_is ∙ is in
        inr ((fails fault, asks fault), (report.out, record { status_is = is; out_gains = gives.out_gains; err_gains = subst (λ (text : List ℕ). Gains err.held_before err.held_now text) quiet gives.err_gains }))

    pub in-fault : (answer : Result code.Report Stop) → IfOk answer (λ report. IsReported rose (report_of report))
        → (IsOfDisk answer → asked) → (answer ≡ Err stops.DiskFault → rose)
        → (answer ≡ Err stops.ReadFault → input_failed)
        → Delivers (ending answer) status out err → EndsInFault (rose × asked) input_failed status out err
    in-fault (Ok report) reported asks cause read delivers =
        λ is. by_sinks (report_of report) delivers (λ gives. by_report (report_of report) reported asks gives is)
    in-fault (Err stops.Memory) reported asks cause read delivers =
        λ is. by_sinks (warned 70 out_of_memory) delivers (λ gives. absurd (not_both status gives.status_is is))
    in-fault (Err stops.DiskFault) reported asks cause read delivers =
        λ is. by_sinks (warned 74 disk_fault) delivers (λ gives. inl (OfDisk (cause refl, asks tt) gives))
    in-fault (Err stops.ReadFault) reported asks cause read delivers =
        λ is. by_sinks (warned 74 read_fault) delivers (λ gives. inl (OfInput (read refl) gives))

    one_of_five : Cause → (rose → ⊥) → (input_failed → ⊥) → (Failed out → ⊥) → (Failed err → ⊥) → ⊥
    one_of_five (inl (OfDisk risen gives)) no_disk no_input no_out no_err = no_disk risen.0
    one_of_five (inl (OfInput risen gives)) no_disk no_input no_out no_err = no_input risen
    one_of_five (inl (OfOut risen gains)) no_disk no_input no_out no_err = no_out risen
    one_of_five (inl (OfErr risen)) no_disk no_input no_out no_err = no_err risen
    one_of_five (inr (risen, gives)) no_disk no_input no_out no_err = no_disk risen.0

    pub complete-ends : EndsInFault (rose × asked) input_failed status out err → (rose → ⊥) → (input_failed → ⊥)
        → (Failed out → ⊥) → (Failed err → ⊥) → status ≢ 74
    complete-ends ends no_disk no_input no_out no_err = λ is. one_of_five (ends is) no_disk no_input no_out no_err

  -- ---- an answered status

  pub stores-none : {D : Type 0} (g : Ghosts D) (disk end : D) (answer : Result code.Report Stop)
      → StoresNone g answer disk end → Delivers (ending answer) status out err → status ≢ 0 → IsAnswered status
      → OnlyReads g disk end
  stores-none g disk end (Ok report) reads delivers not_done answered =
      let same = (given (report_of report) status out err delivers answered).status_is in
      reads (λ done. not_done (same ∙ done)) (subst IsAnswered same answered)
  stores-none g disk end (Err stops.Memory) reads delivers not_done answered =
      absurd (answered.0 (given (warned 70 out_of_memory) status out err delivers answered).status_is)
  stores-none g disk end (Err stops.DiskFault) reads delivers not_done answered =
      absurd (answered.1 (fault_status disk_fault status out err delivers))
  stores-none g disk end (Err stops.ReadFault) reads delivers not_done answered =
      absurd (answered.1 (fault_status read_fault status out err delivers))

  pub journal-ends : (words : List (List ℕ)) (input line : List ℕ) (answer : Result code.Report Stop)
      → IfOk answer (λ report. TellsOfJournal words input line (report_of report))
      → Delivers (ending answer) status out err → EndsByJournal words input line status out err
  journal-ends words input line (Ok report) told delivers =
      λ answered. (report_of report, told, given (report_of report) status out err delivers answered)
  journal-ends words input line (Err stops.Memory) told delivers =
      λ answered. absurd (answered.0 (given (warned 70 out_of_memory) status out err delivers answered).status_is)
  journal-ends words input line (Err stops.DiskFault) told delivers =
      λ answered. absurd (answered.1 (fault_status disk_fault status out err delivers))
  journal-ends words input line (Err stops.ReadFault) told delivers =
      λ answered. absurd (answered.1 (fault_status read_fault status out err delivers))

-- ---- all of it, on a calm disk

-- nothing on out is a front of anything
pub front-none : (before now : Option (List ℕ)) (bytes : List ℕ) → GainsFront before now []
    → GainsFront before now bytes
front-none None now bytes front = tt
front-none (Some held) now bytes front =
    record { count = 0; within = omega arith; is = front.is ∙ ap (λ (b : List ℕ). Some (held ++ b)) (none front.count) }
  where
    none : (n : ℕ) → ◌≡◌ {A = List ℕ} (take n []) []
    none zero = refl
    none (suc n) = refl

-- an answer to a batch that isn't played stores nothing
unplayed-stores : (words : List (List ℕ)) (input : List ℕ) (bytes_of : Image) (answer : Answer)
    → AnswersUnplayed words input bytes_of answer → answer.stored ≡ []
unplayed-stores words input bytes_of answer (WordsRefused refuses same) = ap (λ (a : Answer). a.stored) same
unplayed-stores words input bytes_of answer (ScriptRefused takes (unplayed.TooLong long same)) =
    ap (λ (a : Answer). a.stored) same
unplayed-stores words input bytes_of answer (ScriptRefused takes (unplayed.BadLine short line bad same)) =
    ap (λ (a : Answer). a.stored) same
unplayed-stores words input bytes_of answer (NotOpened script asks not_opened) =
    ap (λ (a : Answer). a.stored) not_opened.told.1

module _ {D : Type 0} (g : Ghosts D) (disk end : D) (files : Image) (doubt : Option (List FileText)) (words : List (List ℕ)) (input : List ℕ) (before now : ℕ) (input_failed : Type 0) (status : ℕ) (out err : Change) where
  abbrev Answered : Answer → Type 0
  Answered = AnswersUnplayed words input (opened_files (g.seen disk))

  abbrev Ran : Type 0
  Ran = RanBatch g files doubt before now words input input_failed disk end status out err

  -- no session took a step, by an answer
  by_answer : (report : Report) → Served g files doubt Answered report disk end → Delivers report status out err
      → Follows g files doubt Answered disk end status out err
  by_answer report does delivers = record {
    answer = does.answer;
    answers = does.answers;
    answered = λ is. subst (λ (r : Report). Gives r status out err) (sym does.told) (given report status out err delivers is);
    ended = subst (λ (r : Report). (status ≡ r.status) ⊎ LosesSink status out err) (sym does.told) (ended report status out err delivers);
    prefix = subst (λ (r : Report). GainsFront out.held_before out.held_now r.out) (sym does.told) (put_front report status out err delivers);
    crash = does.crash;
    lasting = does.lasting;
    shown = does.shown;
    calm = does.calm;
  }

  -- for want of memory
  by_memory : serving.Unserved g files doubt disk end → Delivers (warned 70 out_of_memory) status out err
      → EndsWithout g files doubt input_failed disk end status out err
  by_memory does delivers = record {
    cause = elim (without_out status out err delivers) as (λ x. (status ≡ 70) ⊎ (status ≡ 74)) [ inl memory ↦ inl memory | inr failed ↦ inr failed.0 ];
    prefix = put_front (warned 70 out_of_memory) status out err delivers;
    crash = does.crash;
    unserved = λ still. does;
    why = λ still. elim (without_out status out err delivers) as (λ x. (status ≡ 70) ⊎ (((status ≡ 74) × Failed err) ⊎ ((status ≡ 74) × input_failed))) [ inl memory ↦ inl memory | inr failed ↦ inr (inl failed) ];
  }

  -- for a fault of the input
  by_input : serving.Unserved g files doubt disk end → input_failed → Delivers (warned 74 read_fault) status out err
      → EndsWithout g files doubt input_failed disk end status out err
  by_input does failed delivers = record {
    cause = inr (fault_status read_fault status out err delivers);
    prefix = put_front (warned 74 read_fault) status out err delivers;
    crash = does.crash;
    unserved = λ still. does;
    why = λ still. inr (inr (fault_status read_fault status out err delivers, failed));
  }

  -- for one of the disk
  by_disk : Failing g files doubt Answered disk end → HasRisen (g.faults disk) (g.faults end)
      → Delivers (warned 74 disk_fault) status out err → EndsWithout g files doubt input_failed disk end status out err
  by_disk (Storing fails) rose delivers =
      absurd (fails.some (unplayed-stores words input (opened_files (g.seen disk)) fails.answer fails.answers))
  by_disk (Seeking left) rose delivers = record {
    cause = inr (fault_status disk_fault status out err delivers);
    prefix = put_front (warned 74 disk_fault) status out err delivers;
    crash = left;
    unserved = λ still. absurd (still rose);
    why = λ still. absurd (still rose);
  }

  not_played : (answer : Result code.Report Stop) → Serve g files doubt Answered answer disk end
      → (answer ≡ Err stops.ReadFault → input_failed)
      → (answer ≡ Err stops.DiskFault → HasRisen (g.faults disk) (g.faults end))
      → Delivers (ending answer) status out err → Ran
  not_played (Ok report) does fails cause delivers = Unplayed (by_answer (report_of report) does delivers)
  not_played (Err stops.Memory) does fails cause delivers = Without (by_memory does delivers)
  not_played (Err stops.DiskFault) does fails cause delivers = Without (by_disk does (cause refl) delivers)
  not_played (Err stops.ReadFault) does fails cause delivers = Without (by_input does (fails refl) delivers)

  -- the sessions took their steps
  has_played : (script : Script) → AsksFor words input script → (answer : Result code.Report Stop)
      → PlaysTold g files doubt before now script answer disk end → Delivers (ending answer) status out err
      → TellsPlayed g files doubt before now words input disk end status out err
  has_played script asks (Ok report) does delivers =
      let text = report_by script does.transcripts does.plays.mounted (commits_of does.plays.story) in
      let told = subst (λ (r : Report). Delivers r status out err) does.told delivers in
      record {
        script = script;
        asks = asks;
        transcripts = does.transcripts;
        plays = does.plays;
        told = inl told;
        prefix = put_front text status out err told;
      }
  has_played script asks (Err stop) does delivers =
      let text = report_by script does.transcripts does.plays.mounted (commits_of does.plays.story) in
      let told = subst (λ (s : Stop). Delivers (stopped s) status out err) does.told delivers in
      record {
        script = script;
        asks = asks;
        transcripts = does.transcripts;
        plays = does.plays;
        told = inr told;
        prefix = front-none out.held_before out.held_now text.out (put_front (warned 70 out_of_memory) status out err told);
      }

  pub ran-batch : (answer : Result code.Report Stop)
      → Works g files doubt before now Answered (AsksFor words input) answer disk end
      → (answer ≡ Err stops.ReadFault → input_failed)
      → (answer ≡ Err stops.DiskFault → HasRisen (g.faults disk) (g.faults end))
      → Delivers (ending answer) status out err → Ran
  ran-batch answer (NotPlayed serves) fails cause delivers = not_played answer serves fails cause delivers
  ran-batch answer (HasPlayed script asks told) fails cause delivers =
      Played (has_played script asks answer told delivers)
