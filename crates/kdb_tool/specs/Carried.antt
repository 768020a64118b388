-- What is done for a batch, and to play a script on the store of a disk, however it ends. (This project's own.)
use Rattle.std.specs.Prelude.{◌≡◌, ◌≢◌, ◌≤◌, ℕ, true, false, List, Option, Some, Err, IfOk, IsOk}
use Rattle.batch_script.specs.declared.steps.Script.{Script}
use Rattle.intent_journal.specs.Opened.{bad_place, found_in, opened_files, unknown_version, IsKept}
use Rattle.intent_journal.specs.Openings.{LeavesRetired}
use Rattle.intent_journal.specs.States.{IsCalm}
use Rattle.journal_codec.specs.declared.files.FileText.{FileText}
use Rattle.journal_steps.specs.declared.faults.JournalFault.{JournalFault}
use Rattle.kdb_outside.specs.Faults.{HasRisen}
use Rattle.kdb_outside.specs.Frames.{GoesOn, OnlyReads}
use Rattle.kdb_outside.specs.Images.{Image}
use Rattle.kdb_outside.specs.declared.disks.Disk as disks
use Rattle.kdb_outside.specs.declared.sources.Source as sources
use Rattle.regex_check.specs.declared.patterns.Patterns as matchers
use Rattle.store_lines.specs.Lines.{bad_journal, unknown_journal}
use Rattle.tool_commands.specs.Report.{warned}
use Rattle.tool_commands.specs.StepView.{report_of}
use Rattle.tool_single.specs.Crashing.{HasNothingToWrite}
use Rattle.tool_single.specs.Input.{LosesInput}
use Rattle.tool_single.specs.Refusing.{Tells}
use Rattle.tool_single.specs.declared.answers.Ended.{Ended}
use Rattle.tool_single.specs.declared.answers.Stop.TheVariants as stops
use Rattle.tool_words.specs.Lines.{options_refused}
use Rattle.kdb_tool.specs.Ends.{TellsOfJournal}
use Rattle.kdb_tool.specs.Reported.{IsOfDisk, IsReported, StoresNone}
use Rattle.kdb_tool.specs.RunsBatch.{IsAtRest}
use Rattle.kdb_tool.specs.Scripts.{AsksFor, AsksStore, FailsToRead, HasAsked, IsGiven, LeavesInput, takes_words}
use Rattle.kdb_tool.specs.Unplayed.{AnswersUnplayed, IsUnopened}
use Rattle.kdb_tool.specs.Working.{Works}

-- a script was played on the store of a disk. What is said of its files is said of a disk that tells, and mostly of one
-- that is calm
pub record PlaysScript {D P : Type 0} (d : disks.Ghosts D) (p : matchers.Ghosts P) (script : Script) (disk : D) (patterns : P) (ended : Ended D P) : Type 0 where
  pub worked : d.tells disk ≡ true → (files : Image) (doubt : Option (List FileText))
      → IsCalm (d.seen disk) (d.may_leave disk) files doubt
      → Works d files doubt (p.refusals patterns) (p.refusals ended.patterns) (IsUnopened (opened_files (d.seen disk))) (λ played. played ≡ script) ended.answer disk ended.disk
  pub reported : IfOk ended.answer (λ report. IsReported (HasRisen (d.faults disk) (d.faults ended.disk)) (report_of report))
  pub unstored : d.tells disk ≡ true → HasNothingToWrite (d.seen disk) → StoresNone d ended.answer disk ended.disk
  pub broken : d.tells disk ≡ true → (at : ℕ) → bad_place (d.seen disk) ≡ Some at
      → IfOk ended.answer (λ report. report_of report ≡ warned 5 (bad_journal at))
  pub unknown : d.tells disk ≡ true → (version : ℕ) → unknown_version (d.seen disk) ≡ Some version
      → IfOk ended.answer (λ report. report_of report ≡ warned 5 (unknown_journal version))
  pub broken_stays : d.tells disk ≡ true → (fault : JournalFault) → found_in (d.seen disk) ≡ Err fault
      → IsKept (d.seen disk) → OnlyReads d disk ended.disk
  pub broken_kept : d.tells disk ≡ true → (fault : JournalFault) → found_in (d.seen disk) ≡ Err fault
      → ¬ IsKept (d.seen disk) → IsOk ended.answer → LeavesRetired d disk ended.disk
  pub cause : ended.answer ≡ Err stops.DiskFault → HasRisen (d.faults disk) (d.faults ended.disk)
  pub input : ended.answer ≢ Err stops.ReadFault
  pub goes : GoesOn d disk ended.disk
  pub later : p.refusals patterns ≤ p.refusals ended.patterns

-- a batch was carried out by its words and its input: a script was played, or what there is in its place was told
-- without the store
pub record CarriesOutBatch {S D P : Type 0} (s : sources.Ghosts S) (d : disks.Ghosts D) (p : matchers.Ghosts P) (line : List (List ℕ)) (source source_now : S) (disk : D) (patterns : P) (ended : Ended D P) : Type 0 where
  pub worked : d.tells disk ≡ true → (files : Image) (doubt : Option (List FileText))
      → IsCalm (d.seen disk) (d.may_leave disk) files doubt → (given : List ℕ)
      → IsGiven (takes_words line) (s.left source) given
      → Works d files doubt (p.refusals patterns) (p.refusals ended.patterns) (AnswersUnplayed line given (opened_files (d.seen disk))) (AsksFor line given) ended.answer disk ended.disk
  pub calm : d.tells disk ≡ true → (files : Image) (doubt : Option (List FileText))
      → IsCalm (d.seen disk) (d.may_leave disk) files doubt → ¬ HasRisen (d.faults disk) (d.faults ended.disk)
      → IsAtRest d ended.disk
  pub words : takes_words line ≡ false → Tells (warned 1 options_refused) ended.answer
  pub reported : IfOk ended.answer (λ report. IsReported (HasRisen (d.faults disk) (d.faults ended.disk)) (report_of report))
  pub unstored : d.tells disk ≡ true → HasNothingToWrite (d.seen disk) → StoresNone d ended.answer disk ended.disk
  pub broken : d.tells disk ≡ true → (at : ℕ) → bad_place (d.seen disk) ≡ Some at → (given : List ℕ)
      → IsGiven (takes_words line) (s.left source) given
      → IfOk ended.answer (λ report. TellsOfJournal line given (bad_journal at) (report_of report))
  pub unknown : d.tells disk ≡ true → (version : ℕ) → unknown_version (d.seen disk) ≡ Some version → (given : List ℕ)
      → IsGiven (takes_words line) (s.left source) given
      → IfOk ended.answer (λ report. TellsOfJournal line given (unknown_journal version) (report_of report))
  pub broken_stays : d.tells disk ≡ true → (fault : JournalFault) → found_in (d.seen disk) ≡ Err fault
      → IsKept (d.seen disk) → OnlyReads d disk ended.disk
  pub broken_kept : d.tells disk ≡ true → (fault : JournalFault) → found_in (d.seen disk) ≡ Err fault
      → ¬ IsKept (d.seen disk) → (given : List ℕ) → IsGiven (takes_words line) (s.left source) given
      → AsksStore line given → IsOk ended.answer → LeavesRetired d disk ended.disk
  pub asked : IsOfDisk ended.answer → HasAsked s line source source_now
  pub unasked : (given : List ℕ) → IsGiven (takes_words line) (s.left source) given → (AsksStore line given → ⊥)
      → (ended.disk ≡ disk) × (ended.patterns ≡ patterns)
  pub input : LeavesInput s (takes_words line) (IsOk ended.answer) source source_now
  pub read : ended.answer ≡ Err stops.ReadFault
      → LosesInput (FailsToRead (takes_words line) (s.faults source) (s.faults source_now)) disk ended.disk patterns ended.patterns
  pub cause : ended.answer ≡ Err stops.DiskFault → HasRisen (d.faults disk) (d.faults ended.disk)
  pub goes : GoesOn d disk ended.disk
  pub later : s.faults source ≤ s.faults source_now
  pub later_patterns : p.refusals patterns ≤ p.refusals ended.patterns
