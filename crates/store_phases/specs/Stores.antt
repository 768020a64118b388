-- A store over a journal, seen as a run on the disk as its opening left it. This project's own.
use Rattle.std.specs.Prelude.{◌≡◌, ℕ, ◌≤◌, List, length, true}
use Rattle.kdb_outside.specs.declared.disks.Disk.{Ghosts}
use Rattle.kdb_outside.specs.Faults.{HasRisen}
use Rattle.intent_journal.specs.Journal.{JournalValue}
use Rattle.journal_codec.specs.declared.files.FileText.{FileText}
use Rattle.journal_codec.specs.Header.{header_bytes}
use Rattle.journal_steps.specs.Moments.{LeavesOnly}
use Rattle.intent_journal.specs.States.{IsCalm}
use Rattle.model_crashes.specs.Runs.{Run, files_of, IsBegun, IsReached}
use Rattle.store_phases.specs.Phases.{IsOfRun}
use Rattle.store_phases.specs.Resting.{IsResting}

-- a journal stands for a run since the disk was opened
pub record IsStore {D : Type 0} (g : Ghosts D) (opened : D) (journal : JournalValue D) (run : Run) : Type 0 where
  pub later : g.moment opened ≤ g.moment journal.disk
  pub risen : run.faults ≤ g.faults journal.disk
  -- now a crash leaves the files of the run, or these with its doubt
  pub rests : IsResting g journal run.names (files_of run) run.doubt
  -- which was begun behind the last commit
  pub doubt_begun : IsBegun run.begun (length run.commits) run.doubt
  -- where the count of faults didn't rise since the run began, a disk whose gate is in doubt is calm
  pub calm : journal.in_doubt ≡ true → ¬ HasRisen run.faults (g.faults journal.disk)
      → IsCalm (g.seen journal.disk) (g.may_leave journal.disk) (files_of run) run.doubt
  -- a crash at any moment since the opening leaves the files of a prefix of the commits, or these with one entry that
  -- was begun on it
  pub always : LeavesOnly g opened journal.disk (IsReached run.files run.commits run.begun)

-- a journal stands for a run, and the header and the entry are those of that run
abbrev pub WhereOfRun : {D : Type 0} → Ghosts D → JournalValue D → List ℕ → List FileText → (D → Run → Type 0) → Type 0
WhereOfRun {D = D} g journal header files P =
    (opened : D) (run : Run) → IsStore g opened journal run → header ≡ header_bytes run.names → IsOfRun run.names files → P opened run
