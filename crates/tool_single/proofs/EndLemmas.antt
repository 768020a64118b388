-- How a run ends, from the answer that was worked out and what became of it on out and err.
use Rattle.std.specs.Prelude.{◌≡◌, ◌≢◌, ℕ, ◌<◌, ◌⊎◌, List, [], ◌++◌, length, Option, Some, None, Result, Ok, Err, IfOk, IsOk}
use Rattle.std.proofs.Common.{refl, sym, ap, ◌∙◌, subst, inl, inr, arith}
use Rattle.std.proofs.Math.Seq.{take-length}
use Rattle.tool_single.specs.declared.answers.Stop.{Stop}
use Rattle.tool_single.specs.declared.answers.Stop.TheVariants as stops
use Rattle.tool_commands.specs.Lines.{read_fault}
use Rattle.store_lines.specs.Lines.{disk_fault, out_of_memory}
use Rattle.tool_words.specs.Lines.{not_writable}
use Rattle.tool_commands.specs.Report.{Report, warned}
use Rattle.tool_words.specs.Request.{Request, Refuses, Bars, Asks, Imports}
use Rattle.tool_commands.specs.StepView.{report_of}
use Rattle.tool_commands.specs.declared.reports.Report as code
use Rattle.tool_single.specs.Input.{FailsToRead}
use Rattle.tool_single.specs.Untold.{IsStatusOf, HasAsked, ReportsUntold}
use Rattle.tool_single.specs.Ending.{ending}
use Rattle.tool_single.specs.Serving.{MayStore}
use Rattle.kdb_outside.specs.SinkChange.{SinkChange as Change}
use Rattle.kdb_outside.specs.declared.sources.Source.{Ghosts}
use Rattle.tool_single.specs.Outcome.{Failed, Gives, Gains, GainsFront, Delivers, Whole, OutFails, ErrFails}
use Rattle.tool_commands.specs.Report.{IsAnswered, IsEnd}
use Rattle.tool_single.specs.Ends.{LosesSink, EndsRefused, Refused, NoMemory, SinkFails, EndsByWords, EndsWithoutMemory, EndsInFault, FaultCause, OfDisk, OfInput, OfOut, OfErr}

-- ---- statuses of commands that reached the files

-- none is that of want of memory or of a fault
pub end-answered : (status : ℕ) → status < 70 → IsAnswered status
end-answered status few = ((λ e. absurd (omega (arith, few, e))), (λ e. absurd (omega (arith, few, e))))

pub refused-answered : (wanted status : ℕ) → wanted < 70 → status ≡ wanted → IsAnswered status
refused-answered wanted status few is = end-answered status (omega (arith, few, is))

-- any of them may be refused by the store
pub refused-end : (own : List ℕ) (status : ℕ) → status ≡ 5 → IsEnd own status
refused-end own status is = (inr (inl is), omega (arith, is))

-- ---- ends

not_fault : (status : ℕ) → status ≡ 70 → status ≢ 74
not_fault status e f = absurd (omega arith)

-- a run that ended in no fault gave its answer whole
whole : (report : Report) (status : ℕ) (out err : Change) → Delivers report status out err → status ≢ 74
    → Gives report status out err
whole answer status out err (Whole gives) no_fault = gives
whole answer status out err (OutFails loses) no_fault = absurd (no_fault loses.status_is)
whole answer status out err (ErrFails loses) no_fault = absurd (no_fault loses.status_is)

-- a report whose status is an answer's was given whole
pub given : (report : Report) (status : ℕ) (out err : Change) → Delivers report status out err → IsAnswered status
    → Gives report status out err
given report status out err delivers is = whole report status out err delivers is.1

-- refused words: what became of their line
refused : (report : Report) (status : ℕ) (out err : Change) → Delivers report status out err
    → EndsRefused report status out err
refused report status out err (Whole gives) = Refused gives
refused report status out err (OutFails loses) = SinkFails (loses.status_is, inl loses.out_failed)
refused report status out err (ErrFails loses) = SinkFails (loses.status_is, inr loses.err_failed)

without_answer : (report : Report) (status : ℕ) (out err : Change) → Delivers (warned 70 out_of_memory) status out err
    → EndsRefused report status out err
without_answer report status out err (Whole gives) = NoMemory gives.status_is
without_answer report status out err (OutFails loses) = SinkFails (loses.status_is, inl loses.out_failed)
without_answer report status out err (ErrFails loses) = SinkFails (loses.status_is, inr loses.err_failed)

by_request : (asked : Request) (report : Report) (status : ℕ) (out err : Change) → ReportsUntold asked report
    → Delivers report status out err → EndsByWords asked status out err
by_request (Refuses code text) report status out err is delivers =
    refused (warned code text) status out err (subst (λ (r : Report). Delivers r status out err) is delivers)
by_request (Bars name) report status out err is delivers =
    refused (warned 2 (not_writable name)) status out err (subst (λ (r : Report). Delivers r status out err) is delivers)
by_request (Asks question) report status out err is delivers =
    λ answered. subst (IsStatusOf question) (sym (whole report status out err delivers answered.1).status_is) is
by_request (Imports name kind) report status out err is delivers =
    λ answered. subst (IsEnd []) (sym (whole report status out err delivers answered.1).status_is) is

stopped_by : (asked : Request) (status : ℕ) (out err : Change) → Delivers (warned 70 out_of_memory) status out err
    → EndsByWords asked status out err
stopped_by (Refuses code text) status out err delivers = without_answer (warned code text) status out err delivers
stopped_by (Bars name) status out err delivers = without_answer (warned 2 (not_writable name)) status out err delivers
stopped_by (Asks question) status out err delivers =
    λ answered. absurd (answered.0 (whole (warned 70 out_of_memory) status out err delivers answered.1).status_is)
stopped_by (Imports name kind) status out err delivers =
    λ answered. absurd (answered.0 (whole (warned 70 out_of_memory) status out err delivers answered.1).status_is)

failed_by : {S : Type 0} (g : Ghosts S) (source new : S) (asked : Request) (status : ℕ) (out err : Change)
    → HasAsked g asked source new → Delivers (warned 74 disk_fault) status out err → EndsByWords asked status out err
failed_by g source new (Refuses code text) status out err has delivers = absurd (has.asks [] tt)
failed_by g source new (Bars name) status out err has delivers = absurd (has.asks [] tt)
failed_by g source new (Asks question) status out err has delivers =
    λ answered. absurd (answered.1 (whole (warned 74 disk_fault) status out err delivers answered.1).status_is)
failed_by g source new (Imports name kind) status out err has delivers =
    λ answered. absurd (answered.1 (whole (warned 74 disk_fault) status out err delivers answered.1).status_is)

unread_by : (asked : Request) (before now : ℕ) (status : ℕ) (out err : Change) → FailsToRead asked before now
    → Delivers (warned 74 read_fault) status out err → EndsByWords asked status out err
unread_by (Refuses code text) before now status out err fails delivers = absurd fails
unread_by (Bars name) before now status out err fails delivers = absurd fails
unread_by (Asks question) before now status out err fails delivers = absurd fails
unread_by (Imports name kind) before now status out err fails delivers =
    λ answered. absurd (answered.1 (whole (warned 74 read_fault) status out err delivers answered.1).status_is)

pub by_words : {S : Type 0} (g : Ghosts S) (source new : S) (r : Result code.Report Stop) (asked : Request) (status : ℕ)
    (out err : Change) → IfOk r (λ report. ReportsUntold asked (report_of report))
    → (r ≡ Err stops.DiskFault → HasAsked g asked source new)
    → (r ≡ Err stops.ReadFault → FailsToRead asked (g.faults source) (g.faults new))
    → Delivers (ending r) status out err → EndsByWords asked status out err
by_words g source new (Ok report) asked status out err untold asks fails delivers =
    by_request asked (report_of report) status out err untold delivers
by_words g source new (Err stops.Memory) asked status out err untold asks fails delivers =
    stopped_by asked status out err delivers
by_words g source new (Err stops.DiskFault) asked status out err untold asks fails delivers =
    failed_by g source new asked status out err (asks refl) delivers
by_words g source new (Err stops.ReadFault) asked status out err untold asks fails delivers =
    unread_by asked (g.faults source) (g.faults new) status out err (fails refl) delivers

-- what is gained whole is gained as a front
front-whole : (before now : Option (List ℕ)) (bytes : List ℕ) → Gains before now bytes → GainsFront before now bytes
front-whole (Some held) now bytes gains =
    record {
      count = length bytes;
      within = omega arith;
      is = gains ∙ ap (λ b. Some (held ++ b)) (sym (take-length bytes));
    }
front-whole None now bytes gains = tt

front : (report : Report) (status : ℕ) (out err : Change) → Delivers report status out err
    → GainsFront out.held_before out.held_now report.out
front report status out err (Whole gives) = front-whole out.held_before out.held_now report.out gives.out_gains
front report status out err (OutFails loses) = loses.out_front
front report status out err (ErrFails loses) = loses.out_front

-- a run puts a front on out of what the report has that it ends with
pub put_front : (report : Report) (status : ℕ) (out err : Change) → Delivers report status out err
    → GainsFront out.held_before out.held_now report.out
put_front report status out err delivers = front report status out err delivers

-- an answer that was worked out has a status of its own, which is neither that of want of memory nor that of a fault
pub without_memory : (r : Result code.Report Stop) (status : ℕ) (out err : Change)
    → IfOk r (λ report. IsAnswered report.status) → Delivers (ending r) status out err
    → EndsWithoutMemory status out err
without_memory (Ok report) status out err own delivers = λ e.
    absurd (own.0 (sym (whole (report_of report) status out err delivers (not_fault status e)).status_is ∙ e))
without_memory (Err stops.Memory) status out err own delivers =
    λ e. whole (warned 70 out_of_memory) status out err delivers (not_fault status e)
without_memory (Err stops.DiskFault) status out err own delivers = λ e.
    absurd (not_fault status e (whole (warned 74 disk_fault) status out err delivers (not_fault status e)).status_is)
without_memory (Err stops.ReadFault) status out err own delivers = λ e.
    absurd (not_fault status e (whole (warned 74 read_fault) status out err delivers (not_fault status e)).status_is)

fault_of_sinks : (disk_failed input_failed : Type 0) (answer : Report) (status : ℕ) (out err : Change)
    → Delivers answer status out err
    → (Gives answer status out err → FaultCause disk_failed input_failed status out err)
    → FaultCause disk_failed input_failed status out err
fault_of_sinks disk_failed input_failed answer status out err (Whole gives) given = given gives
fault_of_sinks disk_failed input_failed answer status out err (OutFails loses) given =
    OfOut loses.out_failed loses.err_gains
fault_of_sinks disk_failed input_failed answer status out err (ErrFails loses) given = OfErr loses.err_failed

-- the cause of a fault
pub in_fault : (disk_failed input_failed : Type 0) (r : Result code.Report Stop) (status : ℕ) (out err : Change)
    → IfOk r (λ report. IsAnswered report.status) → (r ≡ Err stops.DiskFault → disk_failed)
    → (r ≡ Err stops.ReadFault → input_failed) → Delivers (ending r) status out err
    → EndsInFault disk_failed input_failed status out err
in_fault disk_failed input_failed (Ok report) status out err own cause read delivers = λ e.
    fault_of_sinks disk_failed input_failed (report_of report) status out err delivers (λ gives. absurd (own.1 (sym gives.status_is ∙ e)))
in_fault disk_failed input_failed (Err stops.Memory) status out err own cause read delivers = λ e.
    fault_of_sinks disk_failed input_failed (warned 70 out_of_memory) status out err delivers (λ gives. absurd (not_fault status gives.status_is e))
in_fault disk_failed input_failed (Err stops.DiskFault) status out err own cause read delivers = λ e.
    fault_of_sinks disk_failed input_failed (warned 74 disk_fault) status out err delivers (λ gives. OfDisk (cause refl) gives)
in_fault disk_failed input_failed (Err stops.ReadFault) status out err own cause read delivers = λ e.
    fault_of_sinks disk_failed input_failed (warned 74 read_fault) status out err delivers (λ gives. OfInput (read refl) gives)

-- a fault has one of four causes
one_of_four : (disk_failed input_failed : Type 0) (status : ℕ) (out err : Change)
    → FaultCause disk_failed input_failed status out err → (disk_failed → ⊥) → (input_failed → ⊥) → (Failed out → ⊥)
    → (Failed err → ⊥) → ⊥
one_of_four disk_failed input_failed status out err (OfDisk risen gives) no_disk no_input no_out no_err = no_disk risen
one_of_four disk_failed input_failed status out err (OfInput risen gives) no_disk no_input no_out no_err =
    no_input risen
one_of_four disk_failed input_failed status out err (OfOut risen gains) no_disk no_input no_out no_err = no_out risen
one_of_four disk_failed input_failed status out err (OfErr risen) no_disk no_input no_out no_err = no_err risen

-- without a fault of the disk, the input, out or err the status is not that of a fault
pub complete : (disk_failed input_failed : Type 0) (status : ℕ) (out err : Change)
    → EndsInFault disk_failed input_failed status out err → (disk_failed → ⊥) → (input_failed → ⊥) → (Failed out → ⊥)
    → (Failed err → ⊥) → status ≢ 74
complete disk_failed input_failed status out err ends no_disk no_input no_out no_err =
    λ e. one_of_four disk_failed input_failed status out err (ends e) no_disk no_input no_out no_err

-- how a status came of a report: it is the report's, or a sink failed
pub ended : (report : Report) (status : ℕ) (out err : Change) → Delivers report status out err
    → (status ≡ report.status) ⊎ LosesSink status out err
ended report status out err (Whole gives) = inl gives.status_is
ended report status out err (OutFails loses) = inr (loses.status_is, inl loses.out_failed)
ended report status out err (ErrFails loses) = inr (loses.status_is, inr loses.err_failed)

-- nothing was to be put on out, so that it is err that failed
pub without_out : (status : ℕ) (out err : Change) → Delivers (warned 70 out_of_memory) status out err
    → (status ≡ 70) ⊎ ((status ≡ 74) × Failed err)
without_out status out err (Whole gives) = inl gives.status_is
without_out status out err (OutFails loses) = absurd (loses.some refl)
without_out status out err (ErrFails loses) = inr (loses.status_is, loses.err_failed)

-- a fault is told, or a sink failed
pub fault_status : (line : List ℕ) (status : ℕ) (out err : Change) → Delivers (warned 74 line) status out err
    → status ≡ 74
fault_status line status out err (Whole gives) = gives.status_is
fault_status line status out err (OutFails loses) = loses.status_is
fault_status line status out err (ErrFails loses) = loses.status_is

-- a run that ends in want of memory has no answer for that reason
pub of_memory : (r : Result code.Report Stop) (status : ℕ) (out err : Change)
    → IfOk r (λ report. IsAnswered report.status) → Delivers (ending r) status out err → status ≡ 70
    → r ≡ Err stops.Memory
of_memory (Ok report) status out err own delivers e =
    absurd (own.0 (sym (whole (report_of report) status out err delivers (not_fault status e)).status_is ∙ e))
of_memory (Err stops.Memory) status out err own delivers e = refl
of_memory (Err stops.DiskFault) status out err own delivers e =
    absurd (not_fault status e (whole (warned 74 disk_fault) status out err delivers (not_fault status e)).status_is)
of_memory (Err stops.ReadFault) status out err own delivers e =
    absurd (not_fault status e (whole (warned 74 read_fault) status out err delivers (not_fault status e)).status_is)

-- an answer was found where the run ended in one
pub made_of : (r : Result code.Report Stop) (status : ℕ) (out err : Change) → Delivers (ending r) status out err
    → IsAnswered status → IsOk r
made_of (Ok report) status out err delivers is = refl
made_of (Err stops.Memory) status out err delivers is =
    absurd (is.0 (whole (warned 70 out_of_memory) status out err delivers is.1).status_is)
made_of (Err stops.DiskFault) status out err delivers is =
    absurd (is.1 (whole (warned 74 disk_fault) status out err delivers is.1).status_is)
made_of (Err stops.ReadFault) status out err delivers is =
    absurd (is.1 (whole (warned 74 read_fault) status out err delivers is.1).status_is)

-- a run that ends neither as a command that was done nor in a fault stored nothing
pub not_stored : (r : Result code.Report Stop) (status : ℕ) (out err : Change) → Delivers (ending r) status out err
    → status ≢ 0 → status ≢ 74 → ¬ MayStore r
not_stored (Ok report) status out err delivers not_done no_fault =
    λ done. not_done ((whole (report_of report) status out err delivers no_fault).status_is ∙ done)
not_stored (Err stops.Memory) status out err delivers not_done no_fault = λ none. none
not_stored (Err stops.DiskFault) status out err delivers not_done no_fault =
    λ failed. no_fault (whole (warned 74 disk_fault) status out err delivers no_fault).status_is
not_stored (Err stops.ReadFault) status out err delivers not_done no_fault = λ none. none
