-- What a run leaves of the files, and what it tells of its answer, from what was done to the disk.
use Rattle.std.specs.Prelude.{◌≡◌, ℕ, ◌⊎◌, List, Option, Result, Ok, Err}
use Rattle.std.proofs.Common.{inl, inr, refl, sym, subst}
use Rattle.intent_journal.specs.Opened.{opened_files}
use Rattle.journal_codec.specs.declared.files.FileText.{FileText}
use Rattle.kdb_outside.specs.Faults.{HasRisen}
use Rattle.kdb_outside.specs.Images.{Image}
use Rattle.kdb_outside.specs.SinkChange.{SinkChange as Change}
use Rattle.kdb_outside.specs.declared.disks.Disk.{Ghosts}
use Rattle.tool_commands.specs.Lines.{read_fault}
use Rattle.store_lines.specs.Lines.{disk_fault, out_of_memory}
use Rattle.tool_commands.specs.Report.{Report, warned}
use Rattle.tool_commands.specs.StepView.{report_of}
use Rattle.tool_commands.specs.declared.reports.Report as code
use Rattle.tool_single.specs.Answer.{Answer}
use Rattle.tool_single.specs.Answers.{Answers}
use Rattle.tool_single.specs.Ending.{ending}
use Rattle.tool_single.specs.Ends.{LosesSink}
use Rattle.tool_single.specs.Outcome.{Delivers, Failed, GainsFront, Gives}
use Rattle.tool_single.specs.Ran.{ByAnswer, EndsUnstored, EndsWithout, Follows, NotStored, Ran, Without}
use Rattle.tool_single.specs.Serving.{Failing, MayRefuse, Seeking, Serve, Served, Storing}
use Rattle.tool_single.specs.Serving as serving
use Rattle.tool_single.specs.declared.answers.Stop.{Stop}
use Rattle.tool_single.specs.declared.answers.Stop.TheVariants as stops
use Rattle.tool_single.proofs.AnswersMore.{Answers-more}
use Rattle.tool_single.proofs.EndLemmas.{ended, fault_status, given, put_front, without_out}

module _ {D : Type 0} (g : Ghosts D) (disk end : D) (files : Image) (doubt : Option (List FileText)) (words : List (List ℕ)) (input : List ℕ) (before now : ℕ) (input_failed : Type 0) (status : ℕ) (out err : Change) where
  abbrev opened : Image
  opened = opened_files (g.seen disk)

  abbrev Answered : Answer → Type 0
  Answered = Answers (λ _. HasRisen before now) words input opened

  abbrev Does : Result code.Report Stop → Type 0
  Does r = Serve g files doubt (Answers (MayRefuse r before now) words input opened) r disk end

  -- an answer was worked out, and what it stores was stored
  by_answer : (report : code.Report) → Served g files doubt Answered (report_of report) disk end
      → Delivers (report_of report) status out err → Follows g files doubt Answered disk end status out err
  by_answer report does delivers = record {
    answer = does.answer;
    answers = does.answers;
    answered = λ is. subst (λ (r : Report). Gives r status out err) (sym does.told) (given (report_of report) status out err delivers is);
    ended = subst (λ (r : Report). (status ≡ r.status) ⊎ LosesSink status out err) (sym does.told) (ended (report_of report) status out err delivers);
    prefix = subst (λ (r : Report). GainsFront out.held_before out.held_now r.out) (sym does.told) (put_front (report_of report) status out err delivers);
    crash = does.crash;
    lasting = does.lasting;
    shown = does.shown;
    calm = does.calm;
  }

  -- memory was wanting
  by_memory : serving.Unserved g files doubt disk end → Delivers (warned 70 out_of_memory) status out err
      → EndsWithout g files doubt input_failed disk end status out err
  by_memory does delivers = record {
    cause = elim (without_out status out err delivers) as (λ x. (status ≡ 70) ⊎ (status ≡ 74)) [ inl memory ↦ inl memory | inr failed ↦ inr failed.0 ];
    prefix = put_front (warned 70 out_of_memory) status out err delivers;
    crash = does.crash;
    unserved = λ still. does;
    why = λ still. elim (without_out status out err delivers) as (λ x. (status ≡ 70) ⊎ (((status ≡ 74) × Failed err) ⊎ ((status ≡ 74) × input_failed))) [ inl memory ↦ inl memory | inr failed ↦ inr (inl failed) ];
  }

  -- the input failed
  by_input : serving.Unserved g files doubt disk end → input_failed → Delivers (warned 74 read_fault) status out err
      → EndsWithout g files doubt input_failed disk end status out err
  by_input does failed delivers = record {
    cause = inr (fault_status read_fault status out err delivers);
    prefix = put_front (warned 74 read_fault) status out err delivers;
    crash = does.crash;
    unserved = λ still. does;
    why = λ still. inr (inr (fault_status read_fault status out err delivers, failed));
  }

  -- the disk failed to store an answer, which no refused pattern has to do with
  by_storing : serving.Unstored g files doubt (Answers (MayRefuse (Err stops.DiskFault) before now) words input opened) disk end
      → Delivers (warned 74 disk_fault) status out err → EndsUnstored g files doubt Answered disk end status out
  by_storing fails delivers = record {
    status_is = fault_status disk_fault status out err delivers;
    prefix = put_front (warned 74 disk_fault) status out err delivers;
    unstored = record {
      answer = fails.answer;
      answers = Answers-more (MayRefuse (Err stops.DiskFault) before now) (λ _. HasRisen before now) fails.answer (λ none. absurd (fails.some none)) words input opened fails.answers;
      some = fails.some;
      crash = fails.crash;
      uncommitted = fails.uncommitted;
    };
  }

  -- or it failed before one was sought
  by_disk : Failing g files doubt (Answers (MayRefuse (Err stops.DiskFault) before now) words input opened) disk end
      → HasRisen (g.faults disk) (g.faults end) → Delivers (warned 74 disk_fault) status out err
      → Ran g files doubt Answered input_failed disk end status out err
  by_disk (Storing fails) rose delivers = NotStored (by_storing fails delivers)
  by_disk (Seeking left) rose delivers =
      Without (record {
        cause = inr (fault_status disk_fault status out err delivers);
        prefix = put_front (warned 74 disk_fault) status out err delivers;
        crash = left;
        unserved = λ still. absurd (still rose);
        why = λ still. absurd (still rose);
      })

  pub ran : (r : Result code.Report Stop) → Does r → (r ≡ Err stops.ReadFault → input_failed)
      → (r ≡ Err stops.DiskFault → HasRisen (g.faults disk) (g.faults end)) → Delivers (ending r) status out err
      → Ran g files doubt Answered input_failed disk end status out err
  ran (Ok report) does fails cause delivers = ByAnswer (by_answer report does delivers)
  ran (Err stops.Memory) does fails cause delivers = Without (by_memory does delivers)
  ran (Err stops.DiskFault) does fails cause delivers = by_disk does (cause refl) delivers
  ran (Err stops.ReadFault) does fails cause delivers = Without (by_input does (fails refl) delivers)
