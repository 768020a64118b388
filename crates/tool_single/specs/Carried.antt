-- What is done for a request, and for a question to the store, however it ends. (This project's own.)
use Rattle.std.specs.Prelude.{◌≡◌, ◌≢◌, ◌⊎◌, ◌≤◌, ℕ, true, List, Option, Some, Err, IfOk, IsOk}
use Rattle.intent_journal.specs.Opened.{bad_place, found_in, opened_files, unknown_version, IsKept}
use Rattle.intent_journal.specs.Openings.{LeavesRetired}
use Rattle.intent_journal.specs.States.{IsCalm}
use Rattle.journal_codec.specs.declared.files.FileText.{FileText}
use Rattle.journal_steps.specs.declared.faults.JournalFault.{JournalFault}
use Rattle.kdb_outside.specs.Faults.{HasRisen}
use Rattle.kdb_outside.specs.Frames.{GoesOn, OnlyReads}
use Rattle.kdb_outside.specs.Images.{Image}
use Rattle.kdb_outside.specs.declared.disks.Disk as disks
use Rattle.kdb_outside.specs.declared.sources.Source as sources
use Rattle.regex_check.specs.declared.patterns.Patterns as matchers
use Rattle.store_lines.specs.Lines.{bad_journal, unknown_journal}
use Rattle.tool_commands.specs.Report.{IsAnswered, warned}
use Rattle.tool_commands.specs.StepView.{report_of}
use Rattle.tool_words.specs.Request.{Question, Request}
use Rattle.tool_single.specs.Answer.{Texts}
use Rattle.tool_single.specs.Answers.{AnswersOver, AnswersRequest}
use Rattle.tool_single.specs.Broken.{TellsOfJournal}
use Rattle.tool_single.specs.Crashing.{HasNothingToWrite, StaysCalm}
use Rattle.tool_single.specs.Input.{FailsToRead, IsInput, LeavesInput, LosesInput}
use Rattle.tool_single.specs.Serving.{MayRefuse, MayStore, Serve, StoresNothing, Unserved}
use Rattle.tool_single.specs.Untold.{AsksStoreWith, HasAsked, IsStatusOf, ReportsUntold}
use Rattle.tool_single.specs.declared.answers.Ended.{Ended}
use Rattle.tool_single.specs.declared.answers.Stop.TheVariants as stops

-- the texts that the work may have refused as patterns
abbrev pub Refusing : {D P : Type 0} → matchers.Ghosts P → P → Ended D P → List ℕ → Type 0
Refusing p patterns ended = MayRefuse ended.answer (p.refusals patterns) (p.refusals ended.patterns)

-- a question was put to the store of a disk. What is said of its files is said of a disk that tells, and mostly of one
-- that is calm
pub record PutsQuestion {D P : Type 0} (d : disks.Ghosts D) (p : matchers.Ghosts P) (question : Question) (disk : D) (patterns : P) (ended : Ended D P) : Type 0 where
  pub served : d.tells disk ≡ true → (files : Image) (doubt : Option (List FileText))
      → IsCalm (d.seen disk) (d.may_leave disk) files doubt
      → Serve d files doubt (AnswersOver (Refusing p patterns ended) question (opened_files (d.seen disk))) ended.answer disk ended.disk
  pub untouched : d.tells disk ≡ true → HasNothingToWrite (d.seen disk)
      → StoresNothing (AnswersOver (Refusing p patterns ended) question (d.seen disk)) → OnlyReads d disk ended.disk
  pub unstored : d.tells disk ≡ true → HasNothingToWrite (d.seen disk) → ¬ MayStore ended.answer
      → OnlyReads d disk ended.disk
  pub broken : d.tells disk ≡ true → (at : ℕ) → bad_place (d.seen disk) ≡ Some at
      → IfOk ended.answer (λ report. report_of report ≡ warned 5 (bad_journal at))
  pub unknown : d.tells disk ≡ true → (version : ℕ) → unknown_version (d.seen disk) ≡ Some version
      → IfOk ended.answer (λ report. report_of report ≡ warned 5 (unknown_journal version))
  pub broken_stays : d.tells disk ≡ true → (fault : JournalFault) → found_in (d.seen disk) ≡ Err fault
      → IsKept (d.seen disk) → OnlyReads d disk ended.disk
  pub broken_kept : d.tells disk ≡ true → (fault : JournalFault) → found_in (d.seen disk) ≡ Err fault
      → ¬ IsKept (d.seen disk) → IsOk ended.answer → LeavesRetired d disk ended.disk
  pub status : IfOk ended.answer (λ report. IsStatusOf question report.status)
  pub own : IfOk ended.answer (λ report. IsAnswered report.status)
  pub cause : ended.answer ≡ Err stops.DiskFault → HasRisen (d.faults disk) (d.faults ended.disk)
  pub input : ended.answer ≢ Err stops.ReadFault
  pub goes : GoesOn d disk ended.disk
  pub later : p.refusals patterns ≤ p.refusals ended.patterns

-- a request was carried out: it was put to the store, behind its input where it takes one, or told without the store
pub record CarriesOut {S D P : Type 0} (s : sources.Ghosts S) (d : disks.Ghosts D) (p : matchers.Ghosts P) (wanted : Request) (source source_now : S) (disk : D) (patterns : P) (ended : Ended D P) : Type 0 where
  -- by one answer
  pub served : d.tells disk ≡ true → (files : Image) (doubt : Option (List FileText))
      → IsCalm (d.seen disk) (d.may_leave disk) files doubt → (given : List ℕ) → IsInput wanted (s.left source) given
      → Serve d files doubt (AnswersRequest (Refusing p patterns ended) wanted given (opened_files (d.seen disk))) ended.answer disk ended.disk
  pub unserved : d.tells disk ≡ true → (files : Image) (doubt : Option (List FileText))
      → IsCalm (d.seen disk) (d.may_leave disk) files doubt
      → (ended.answer ≡ Err stops.Memory) ⊎ (ended.answer ≡ Err stops.ReadFault)
      → Unserved d files doubt disk ended.disk
  pub calm : d.tells disk ≡ true → (files : Image) (doubt : Option (List FileText))
      → IsCalm (d.seen disk) (d.may_leave disk) files doubt → ¬ HasRisen (d.faults disk) (d.faults ended.disk)
      → (stored : Texts) × StaysCalm d files doubt stored disk ended.disk
  -- where the opening has nothing to write
  pub untouched : d.tells disk ≡ true → HasNothingToWrite (d.seen disk) → (given : List ℕ)
      → IsInput wanted (s.left source) given
      → StoresNothing (AnswersRequest (Refusing p patterns ended) wanted given (d.seen disk))
      → OnlyReads d disk ended.disk
  pub unstored : d.tells disk ≡ true → HasNothingToWrite (d.seen disk) → ¬ MayStore ended.answer
      → OnlyReads d disk ended.disk
  -- where the journal is refused
  pub broken : d.tells disk ≡ true → (at : ℕ) → bad_place (d.seen disk) ≡ Some at → (given : List ℕ)
      → IsInput wanted (s.left source) given
      → IfOk ended.answer (λ report. TellsOfJournal wanted given (bad_journal at) (report_of report))
  pub unknown : d.tells disk ≡ true → (version : ℕ) → unknown_version (d.seen disk) ≡ Some version → (given : List ℕ)
      → IsInput wanted (s.left source) given
      → IfOk ended.answer (λ report. TellsOfJournal wanted given (unknown_journal version) (report_of report))
  pub broken_stays : d.tells disk ≡ true → (fault : JournalFault) → found_in (d.seen disk) ≡ Err fault
      → IsKept (d.seen disk) → OnlyReads d disk ended.disk
  pub broken_kept : d.tells disk ≡ true → (fault : JournalFault) → found_in (d.seen disk) ≡ Err fault
      → ¬ IsKept (d.seen disk) → (given : List ℕ) → IsInput wanted (s.left source) given
      → AsksStoreWith wanted given → IsOk ended.answer → LeavesRetired d disk ended.disk
  -- whatever the disk tells
  pub untold : IfOk ended.answer (λ report. ReportsUntold wanted (report_of report))
  pub asked : ended.answer ≡ Err stops.DiskFault → HasAsked s wanted source source_now
  pub unasked : (given : List ℕ) → IsInput wanted (s.left source) given → (AsksStoreWith wanted given → ⊥)
      → (ended.disk ≡ disk) × (ended.patterns ≡ patterns)
  pub own : IfOk ended.answer (λ report. IsAnswered report.status)
  pub input : LeavesInput s wanted (IsOk ended.answer) source source_now
  pub read : ended.answer ≡ Err stops.ReadFault
      → LosesInput (FailsToRead wanted (s.faults source) (s.faults source_now)) disk ended.disk patterns ended.patterns
  pub cause : ended.answer ≡ Err stops.DiskFault → HasRisen (d.faults disk) (d.faults ended.disk)
  pub goes : GoesOn d disk ended.disk
  pub later : s.faults source ≤ s.faults source_now
  pub later_patterns : p.refusals patterns ≤ p.refusals ended.patterns
