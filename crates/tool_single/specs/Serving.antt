-- What a command does to a store, by how it ended: on the open store, and on the disk from the opening to the close.
-- (This project's own.)
use Rattle.std.specs.Prelude.{◌≡◌, ◌≢◌, ℕ, true, List, [], ◌∷◌, length, Option, None, Result, Ok, Err}
use Rattle.intent_journal.specs.Opened.{opened_files}
use Rattle.intent_journal.specs.Journal.{JournalValue}
use Rattle.journal_steps.specs.Moments.{LeavesOnly}
use Rattle.intent_journal.specs.Outcomes.{HasOnly}
use Rattle.journal_steps.specs.Outcomes.{IsEither}
use Rattle.journal_codec.specs.declared.files.FileText.{FileText}
use Rattle.kdb_outside.specs.Crashes.{EveryImage}
use Rattle.kdb_outside.specs.Faults.{HasRisen}
use Rattle.kdb_outside.specs.Frames.{OnlyReads}
use Rattle.kdb_outside.specs.Images.{Image}
use Rattle.kdb_outside.specs.declared.disks.Disk.{Ghosts}
use Rattle.model_crashes.specs.Runs.{Run, IsOneOf, after_begun, after_commit}
use Rattle.model_files.specs.Files.{table_files}
use Rattle.model_maps.specs.KeyMap.{KeyMap, no_keys}
use Rattle.model_names.specs.Name.{Name}
use Rattle.model_store.specs.Events.{first_bad}
use Rattle.model_store.specs.First.{first_record}
use Rattle.model_store.specs.Records.{no_record}
use Rattle.model_store.specs.Store.{store_of}
use Rattle.model_store.specs.Worlds.{first_world}
use Rattle.mounted_files.specs.declared.files.MountedFile.{MountedFile}
use Rattle.store_core.specs.Cores.{StandsIn}
use Rattle.store_core.specs.Frames.{IsUnwritten}
use Rattle.store_core.specs.declared.cores.Core.{Core}
use Rattle.store_core.specs.declared.cores.Plan.{Plan}
use Rattle.store_phases.specs.Stores.{IsStore}
use Rattle.store_verdict.specs.Preparing.{IsMade}
use Rattle.store_verdict.specs.RecordView.{handle_of, places_of, proc_of, record_of}
use Rattle.store_verdict.specs.declared.prepared.Prepared.{Prepared}
use Rattle.store_verdict.specs.declared.records.Record.{Record}
use Rattle.tool_commands.specs.Report.{Report}
use Rattle.tool_commands.specs.StepView.{report_of}
use Rattle.tool_commands.specs.declared.reports.Report as code
use Rattle.tool_single.specs.Answer.{Answer, Texts, entry_of}
use Rattle.tool_single.specs.Crashing.{HasNothingToWrite, IsUncommitted, MayBeLeft, MayRemain, Shows, StaysCalm}
use Rattle.tool_single.specs.Alone.{store_alone, the_handle}
use Rattle.tool_single.specs.Sets.{formats}
use Rattle.tool_single.specs.declared.answers.Stop.{Stop}
use Rattle.tool_single.specs.declared.answers.Stop.TheVariants as stops

-- ---- on the open store

-- a store was opened, and nothing committed
pub record IsOpen {D F P : Type 0} (plan : Plan F) (core : Core D P) : Type 0 where
  pub world : (procs : ℕ → KeyMap)
      → StandsIn formats (store_of plan.mounted procs) core (λ r. no_record) (λ p. None) first_world

-- and the handle of a command got a parent
pub record HasFetched (files : List MountedFile) (parent : Name) (rec : Record) : Type 0 where
  pub good : first_bad (store_alone files) parent ≡ None
  pub handle : handle_of rec ≡ the_handle
  pub is : record_of rec ≡ first_record (store_alone files) parent
  pub places : places_of rec ≡ length files

-- the record of a handle that has fetched nothing
pub record IsNew (files : List MountedFile) (rec : Record) : Type 0 where
  pub handle : handle_of rec ≡ the_handle
  pub places : places_of rec ≡ length files
  pub proc : proc_of rec ≡ no_keys
  pub none : (m : ℕ) → (record_of rec).fetched m ≡ None
  pub fresh : (record_of rec).committed ≡ 0

-- a set was prepared at a parent that its handle got first of all
pub record IsAlone (files : List MountedFile) (rec : Record) (set : Prepared) : Type 0 where
  pub parent : Name
  pub keys : KeyMap
  pub fetched : HasFetched files parent rec
  pub made : IsMade formats (store_alone files) the_handle (record_of rec) parent keys set

-- a run goes on by what an answer stores
abbrev pub run_with : Run → Texts → Run
run_with run [] = run
run_with run (text ∷ texts) = after_commit run (entry_of (text ∷ texts))

-- an answer was given over mounted files, and what it stores is committed, by a command that was done; where it stores
-- nothing the store is as it was. Any run that the journal stood for, under a head that names these files, goes on by
-- it
pub record Serves {D P : Type 0} (g : Ghosts D) (mounted : List MountedFile) (Answered : Answer → Type 0) (report : Report) (before after : Core D P) : Type 0 where
  pub answer : Answer
  pub answers : Answered answer
  pub told : answer.report ≡ report
  pub committed : (opened : D) (run : Run) → run.names ≡ table_files (store_alone mounted)
      → IsStore g opened before.journal run → IsStore g opened after.journal (run_with run answer.stored)
  pub kept : answer.stored ≡ [] → IsUnwritten before after
  pub done : answer.stored ≢ [] → report.status ≡ 0

-- an entry was begun in a run, and one at most is in doubt
pub record BeginsEntry {D : Type 0} (g : Ghosts D) (opened : D) (run : Run) (entry : List FileText) (journal : JournalValue D) : Type 0 where
  pub doubt : Option (List FileText)
  pub one : IsOneOf doubt run.doubt entry
  pub store : IsStore g opened journal (after_begun run entry doubt)

-- the disk failed to commit what an answer stores, and was written to
pub record FailsToStore {D P : Type 0} (g : Ghosts D) (mounted : List MountedFile) (Answered : Answer → Type 0) (before after : Core D P) : Type 0 where
  pub answer : Answer
  pub answers : Answered answer
  pub some : answer.stored ≢ []
  pub begun : (opened : D) (run : Run) → run.names ≡ table_files (store_alone mounted)
      → IsStore g opened before.journal run → BeginsEntry g opened run (entry_of answer.stored) after.journal
  pub wrote : after.wrote ≡ true

abbrev pub Serving : {D P : Type 0} → Ghosts D → List MountedFile → (Answer → Type 0) → Result code.Report Stop → Core D P → Core D P → Type 0
Serving g mounted Answered (Ok report) before after = Serves g mounted Answered (report_of report) before after
Serving g mounted Answered (Err stops.Memory) before after = IsUnwritten before after
Serving g mounted Answered (Err stops.DiskFault) before after = FailsToStore g mounted Answered before after
Serving g mounted Answered (Err stops.ReadFault) before after = ⊥

-- the texts that may have been refused as patterns, by the counts of the matcher's refusals: where an answer was given
-- none unless its count has risen, since it counts the texts that are no patterns too, and where no answer was given
-- any
abbrev pub MayRefuse : Result code.Report Stop → ℕ → ℕ → List ℕ → Type 0
MayRefuse (Ok report) before now pattern = HasRisen before now
MayRefuse (Err stop) before now pattern = Unit {0}

-- none of some answers stores anything
abbrev pub StoresNothing : (Answer → Type 0) → Type 0
StoresNothing Answered = (answer : Answer) → Answered answer → answer.stored ≡ []

-- something may be stored by how the work ended: a command was done, or the disk failed
abbrev pub MayStore : Result code.Report Stop → Type 0
MayStore (Ok report) = report.status ≡ 0
MayStore (Err stops.Memory) = ⊥
MayStore (Err stops.DiskFault) = Unit {0}
MayStore (Err stops.ReadFault) = ⊥

-- ---- on the disk, which was calm

-- an answer was given: what a crash may leave amid it and behind it, and what the files show
pub record Served {D : Type 0} (g : Ghosts D) (files : Image) (doubt : Option (List FileText)) (Answered : Answer → Type 0) (report : Report) (before after : D) : Type 0 where
  pub answer : Answer
  pub answers : Answered answer
  pub told : answer.report ≡ report
  pub crash : LeavesOnly g before after (MayBeLeft files doubt (opened_files (g.seen before)) answer.stored)
  pub lasting : EveryImage (g.may_leave after) (MayRemain files doubt (opened_files (g.seen before)) answer.stored)
  pub shown : ¬ HasRisen (g.faults before) (g.faults after)
      → Shows answer.stored (opened_files (g.seen before)) (g.seen before) (g.seen after)
  pub calm : ¬ HasRisen (g.faults before) (g.faults after) → StaysCalm g files doubt answer.stored before after

-- nothing was stored: a crash amid the call leaves the files as they were found, and where the opening had nothing to
-- write the disk was only read; where it didn't fail it shows the files of the opening, or those that it showed before,
-- and is calm
pub record Unserved {D : Type 0} (g : Ghosts D) (files : Image) (doubt : Option (List FileText)) (before after : D) : Type 0 where
  pub crash : LeavesOnly g before after (HasOnly (IsEither files doubt))
  pub untouched : HasNothingToWrite (g.seen before) → OnlyReads g before after
  pub shown : ¬ HasRisen (g.faults before) (g.faults after)
      → Shows [] (opened_files (g.seen before)) (g.seen before) (g.seen after)
  pub calm : ¬ HasRisen (g.faults before) (g.faults after) → StaysCalm g files doubt [] before after

-- the disk failed before what an answer stores was committed
pub record Unstored {D : Type 0} (g : Ghosts D) (files : Image) (doubt : Option (List FileText)) (Answered : Answer → Type 0) (before after : D) : Type 0 where
  pub answer : Answer
  pub answers : Answered answer
  pub some : answer.stored ≢ []
  pub crash : LeavesOnly g before after (MayBeLeft files doubt (opened_files (g.seen before)) answer.stored)
  pub uncommitted : IsUncommitted g before after (opened_files (g.seen before))

-- the disk failed, while an answer was stored, or before one was sought
pub data Failing {D : Type 0} (g : Ghosts D) (files : Image) (doubt : Option (List FileText)) (Answered : Answer → Type 0) (before after : D) : Type 0 where
  Storing : Unstored g files doubt Answered before after → Failing g files doubt Answered before after
  Seeking : LeavesOnly g before after (HasOnly (IsEither files doubt)) → Failing g files doubt Answered before after

abbrev pub Serve : {D : Type 0} → Ghosts D → Image → Option (List FileText) → (Answer → Type 0) → Result code.Report Stop → D → D → Type 0
Serve g files doubt Answered (Ok report) before after = Served g files doubt Answered (report_of report) before after
Serve g files doubt Answered (Err stops.Memory) before after = Unserved g files doubt before after
Serve g files doubt Answered (Err stops.ReadFault) before after = Unserved g files doubt before after
Serve g files doubt Answered (Err stops.DiskFault) before after = Failing g files doubt Answered before after
