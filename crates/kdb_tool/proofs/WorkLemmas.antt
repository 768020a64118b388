-- What was done for a batch, under other answers, and what it leaves of a calm disk.
use Rattle.std.specs.Prelude.{◌≡◌, ◌≢◌, ℕ, List, Option, Result, Ok, Err, IfOk}
use Rattle.std.proofs.Common.{refl, sym, subst}
use Rattle.batch_script.specs.declared.steps.Script.{Script}
use Rattle.intent_journal.specs.Opened.{opened_files}
use Rattle.journal_codec.specs.declared.files.FileText.{FileText}
use Rattle.kdb_outside.proofs.Frames.{OnlyReads-none}
use Rattle.kdb_outside.specs.Faults.{HasRisen}
use Rattle.kdb_outside.specs.Frames.{OnlyReads}
use Rattle.kdb_outside.specs.Images.{Image}
use Rattle.kdb_outside.specs.declared.disks.Disk.{Ghosts}
use Rattle.model_crashes.specs.Runs.{files_of}
use Rattle.kdb_tool.specs.Ends.{JournalRefused, TellsOfJournal}
use Rattle.kdb_tool.specs.Reported.{IsOfDisk, IsReported, Own, StoresNone}
use Rattle.kdb_tool.specs.RunsBatch.{IsAtRest}
use Rattle.kdb_tool.specs.Scripts.{AsksFor}
use Rattle.kdb_tool.specs.Working.{HasPlayed, NotPlayed, Works}
use Rattle.tool_commands.specs.Report.{IsAnswered, Report, warned}
use Rattle.tool_commands.specs.StepView.{report_of}
use Rattle.tool_commands.specs.declared.reports.Report as code
use Rattle.tool_single.proofs.ServeLemmas.{serve_calm, serve_weaker}
use Rattle.tool_single.specs.Answer.{Answer, Texts, with_stored}
use Rattle.tool_single.specs.Crashing.{StaysCalm}
use Rattle.tool_single.specs.Refusing.{Tells}
use Rattle.tool_single.specs.Stops.{or_memory}
use Rattle.tool_single.specs.declared.answers.Stop.{Stop}
use Rattle.tool_single.specs.declared.answers.Stop.TheVariants as stops

-- a calm disk is at rest
pub at-rest : {D : Type 0} (g : Ghosts D) (files : Image) (doubt : Option (List FileText)) (disk end : D)
    → (stored : Texts) × StaysCalm g files doubt stored disk end → IsAtRest g end
at-rest g files doubt disk end stays =
    record { files = with_stored stays.0 (opened_files (g.seen disk)); doubt = stays.1.rest; calm = stays.1.calm }

module _ {D : Type 0} (g : Ghosts D) (files : Image) (doubt : Option (List FileText)) (before now : ℕ) where
  pub works-more : (P Q : Answer → Type 0) (IsAsked AsksToo : Script → Type 0) (answer : Result code.Report Stop)
      (disk end : D) → ((one : Answer) → P one → Q one) → ((script : Script) → IsAsked script → AsksToo script)
      → Works g files doubt before now P IsAsked answer disk end
      → Works g files doubt before now Q AsksToo answer disk end
  works-more P Q IsAsked AsksToo answer disk end follows more (NotPlayed serves) =
      NotPlayed (serve_weaker g files doubt P Q answer disk end follows serves)
  works-more P Q IsAsked AsksToo answer disk end follows more (HasPlayed script asked told) =
      HasPlayed script (more script asked) told

  pub works-calm : (P : Answer → Type 0) (IsAsked : Script → Type 0) (answer : Result code.Report Stop) (disk end : D)
      → Works g files doubt before now P IsAsked answer disk end
      → (answer ≡ Err stops.DiskFault → HasRisen (g.faults disk) (g.faults end))
      → ¬ HasRisen (g.faults disk) (g.faults end) → IsAtRest g end
  works-calm P IsAsked answer disk end (NotPlayed serves) cause still =
      at-rest g files doubt disk end (serve_calm g files doubt P answer disk end serves cause still)
  works-calm P IsAsked answer disk end (HasPlayed script asked told) cause still =
      record { files = files_of told.plays.last; doubt = told.plays.last.doubt; calm = told.plays.calm still }

-- a journal is told where a script was asked for
pub journal-asked : (words : List (List ℕ)) (input line : List ℕ) (script : Script) (answer : Result code.Report Stop)
    → AsksFor words input script → IfOk answer (λ report. report_of report ≡ warned 5 line)
    → IfOk answer (λ report. TellsOfJournal words input line (report_of report))
journal-asked words input line script (Ok report) asks told = JournalRefused script asks told
journal-asked words input line script (Err stop) asks told = tt

-- ---- what is told without the store

pub made-tells : {E : Type 0} (wanted : Report) (made : Result code.Report E) (answer : Result code.Report Stop)
    → answer ≡ or_memory made → IfOk made (λ report. report_of report ≡ wanted) → Tells wanted answer
made-tells wanted (Ok report) answer same told = subst (Tells wanted) (sym same) told
made-tells wanted (Err why) answer same told = subst (Tells wanted) (sym same) refl

pub made-is : {E : Type 0} (P : Report → Type 0) (wanted : Report) (made : Result code.Report E)
    (answer : Result code.Report Stop) → answer ≡ or_memory made → IfOk made (λ report. report_of report ≡ wanted)
    → P wanted → IfOk answer (λ report. P (report_of report))
made-is P wanted (Ok report) answer same told holds =
    subst (λ (r : Result code.Report Stop). IfOk r (λ report. P (report_of report))) (sym same) (subst P (sym told) holds)
made-is P wanted (Err why) answer same told holds =
    subst (λ (r : Result code.Report Stop). IfOk r (λ report. P (report_of report))) (sym same) tt

pub made-reported : {E : Type 0} (failed : Type 0) (made : Result code.Report E) (answer : Result code.Report Stop)
    → answer ≡ or_memory made → IfOk made (λ report. IsAnswered report.status)
    → IfOk answer (λ report. IsReported failed (report_of report))
made-reported failed (Ok report) answer same own =
    subst (λ (r : Result code.Report Stop). IfOk r (λ report. IsReported failed (report_of report))) (sym same) (Own own)
made-reported failed (Err why) answer same own =
    subst (λ (r : Result code.Report Stop). IfOk r (λ report. IsReported failed (report_of report))) (sym same) tt

pub made-not_of_disk : {E : Type 0} (made : Result code.Report E) (answer : Result code.Report Stop)
    → answer ≡ or_memory made → IfOk made (λ report. IsAnswered report.status) → IsOfDisk answer → ⊥
made-not_of_disk (Ok report) answer same own is = own.1 (subst IsOfDisk same is)
made-not_of_disk (Err why) answer same own is = subst IsOfDisk same is

pub stopped-not_of_disk : (stop : Stop) → stop ≢ stops.DiskFault → IsOfDisk (Err stop) → ⊥
stopped-not_of_disk stops.Memory own is = is
stopped-not_of_disk stops.DiskFault own is = own refl
stopped-not_of_disk stops.ReadFault own is = is

-- an answer that only stops is one stop
pub stop-is : (stop other : Stop) → ◌≡◌ {A = Result code.Report Stop} (Err stop) (Err other) → stop ≡ other
stop-is stop other same = cc

-- a disk that is handed back as it came was only read
pub handed-reads : {D : Type 0} (g : Ghosts D) (disk end : D) → end ≡ disk → OnlyReads g disk end
handed-reads g disk end same = subst (OnlyReads g disk) (sym same) (OnlyReads-none g disk)

pub reads-none : {D : Type 0} (g : Ghosts D) (answer : Result code.Report Stop) (before after : D)
    → OnlyReads g before after → StoresNone g answer before after
reads-none g (Ok report) before after reads = λ some answered. reads
reads-none g (Err stop) before after reads = tt
