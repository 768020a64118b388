-- What the close of a store promises of the whole time since its opening. (This project's own.)
use Rattle.std.specs.Prelude.{◌≡◌, ◌⊎◌, ℕ, ◌<◌, false, List, [], ◌∷◌, All}
use mathlib.Core.List.{IsPrefix}
use Rattle.kdb_outside.specs.Crashes.{EveryImage}
use Rattle.kdb_outside.specs.Faults.{HasRisen}
use Rattle.kdb_outside.specs.Frames.{GoesOn}
use Rattle.kdb_outside.specs.declared.disks.Disk.{Ghosts}
use Rattle.intent_journal.specs.Journal.{JournalValue}
use Rattle.journal_steps.specs.Moments.{LeavesOnly}
use Rattle.intent_journal.specs.Opened.{IsFresh}
use Rattle.intent_journal.specs.Outcomes.{HasOnly}
use Rattle.journal_steps.specs.Outcomes.{SameFiles, IsEither}
use Rattle.intent_journal.specs.States.{IsCalm}
use Rattle.kdb_handle.specs.Handles.{HandleValue}
use Rattle.kdb_handle.specs.Opened.{store_at}
use Rattle.kdb_handle.specs.Rising.{HasRisenBy}
use Rattle.kdb_handle.specs.Runs.{RunsBy}
use Rattle.kdb_handle.specs.Story.{Told, Opening, Opened, BeginsNone, maker_of, commits_of, failures_in, refusals_in}
use Rattle.model_crashes.specs.Runs.{Run, files_of, IsReached}
use Rattle.model_files.specs.Files.{table_files}
use Rattle.model_store.specs.Legal.{IsLegal}
use Rattle.model_store.specs.Store.{Formats}
use Rattle.mounted_files.specs.Visible.{visible_keys}
use Rattle.mounted_files.specs.declared.files.MountedFile.{MountedFile}
use Rattle.seat_lock.specs.Story.{made_by}
use Rattle.store_core.specs.declared.closing.Closed.{Closed}
use Rattle.store_phases.specs.Stores.{IsStore}

-- The disk that comes back. At the opening its journal stood for a run; since then the run went on by the story. A
-- crash at any moment since the opening leaves the files of a prefix of the commits, or these with a set of the story
-- that was begun on just that prefix; and now the files of all commits, or these with the set in doubt. Without a fault
-- since the opening a read gives them, and without one since the run began the disk is calm with them, so that the next
-- opening finds what this one found
pub record IsHandedOn (formats : Formats) {D : Type 0} (g : Ghosts D) (files : List MountedFile) (start : D) (first : Run) (opened : D) (rest : List Told) (disk : D) : Type 0 where
  pub last : Run
  pub by_story : RunsBy formats (store_at files) (visible_keys files) first rest last
  pub any_moment : LeavesOnly g start disk (IsReached last.files last.commits last.begun)
  pub now : EveryImage (g.may_leave disk) (HasOnly (IsEither (files_of last) last.doubt))
  pub shown : ¬ HasRisen (g.faults opened) (g.faults disk) → SameFiles (g.seen disk) (files_of last)
  pub calm : ¬ HasRisen first.faults (g.faults disk)
      → IsCalm (g.seen disk) (g.may_leave disk) (files_of last) last.doubt

-- A closed store. There is one story, which begins with the opening and with all that each handle has seen. Its entries
-- of a handle's number are those that the handle made, each once, in their order, and it has no others. Its history is
-- legal, and is the one that comes back. The disk's count of faults rose by at least the sets that failed, and the
-- matcher's count of refusals by at least those with a refused pattern. Where the opening wrote nothing and no set was
-- begun, no call was made on the disk since the opening. For whatever run the journal stood at the opening, under a
-- head that names the files of the store, the disk that comes back is handed on from it by the story
pub record IsClosed (formats : Formats) {D P : Type 0} (g : Ghosts D) (refused : P → ℕ) (files : List MountedFile) (journal : JournalValue D) (opening : Opening) (given : ℕ) (handles : List HandleValue) (closed : Closed D P) : Type 0 where
  pub rest : List Told
  pub seen : All (λ handle. IsPrefix handle.seen (Opened opening ∷ rest)) handles
  pub own : All (λ handle. made_by maker_of handle.number (Opened opening ∷ rest) ≡ handle.own) handles
  pub only : (number : ℕ) → (number ≡ 0) ⊎ (given < number) → made_by maker_of number rest ≡ []
  pub history : closed.history.commits ≡ commits_of rest
  pub legal : IsLegal formats (store_at files) (commits_of rest)
  pub goes : GoesOn g journal.disk closed.disk
  pub faults : HasRisenBy (failures_in rest) (g.faults journal.disk) (g.faults closed.disk)
  pub refusals : HasRisenBy (refusals_in rest) opening.refusals (refused closed.patterns)
  pub left_alone : BeginsNone rest → opening.wrote ≡ false → IsFresh journal → closed.disk ≡ journal.disk
  pub disk : (start : D) (first : Run) → first.names ≡ table_files (store_at files) → IsStore g start journal first
      → IsHandedOn formats g files start first journal.disk rest closed.disk
