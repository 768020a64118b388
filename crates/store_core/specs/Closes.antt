-- What `Core::close` promises. (This project's own.)
use Rattle.std.specs.Prelude.{◌≡◌, ◌⊎◌, true, false, List, Option}
use Rattle.kdb_outside.specs.Crashes.{EveryImage}
use Rattle.kdb_outside.specs.declared.disks.Disk.{Ghosts}
use Rattle.kdb_outside.specs.Faults.{HasRisen}
use Rattle.kdb_outside.specs.Frames.{GoesOn}
use Rattle.kdb_outside.specs.Images.{Image}
use Rattle.journal_codec.specs.declared.files.FileText.{FileText}
use Rattle.intent_journal.specs.Journal.{JournalValue}
use Rattle.journal_steps.specs.Moments.{LeavesOnly}
use Rattle.intent_journal.specs.Outcomes.{HasOnly}
use Rattle.journal_steps.specs.Outcomes.{SameFiles, IsEither}
use Rattle.intent_journal.specs.Opened.{IsFresh}
use Rattle.intent_journal.specs.States.{IsCalm, IsSettled}
use Rattle.model_crashes.specs.Runs.{Run, files_of, IsReached}
use Rattle.store_core.specs.declared.closing.Closed.{Closed}
use Rattle.store_core.specs.declared.cores.Core.{Core}
use Rattle.store_phases.specs.Resting.{RestsOn}
use Rattle.store_phases.specs.Stores.{IsStore}

-- whatever run a journal stands for since the disk was opened
abbrev pub WhereStore : {D : Type 0} → Ghosts D → JournalValue D → (D → Run → Type 0) → Type 0
WhereStore {D} g journal P = (opened : D) (run : Run) → IsStore g opened journal run → P opened run

pub record ClosesStore {D P : Type 0} (g : Ghosts D) (core : Core D P) (closed : Closed D P) : Type 0 where
  pub history : closed.history ≡ core.history
  pub patterns : closed.patterns ≡ core.patterns
  -- where nothing was written, nothing is written now
  pub left_alone : core.wrote ≡ false → IsFresh core.journal → closed.disk ≡ core.journal.disk
  -- where the disk doesn't fail it shows the files of the run, and is calm
  pub shown : WhereStore g core.journal (λ opened run. ¬ HasRisen (g.faults core.journal.disk) (g.faults closed.disk) → SameFiles (g.seen closed.disk) (files_of run))
  pub settled : WhereStore g core.journal (λ opened run. ¬ HasRisen (g.faults core.journal.disk) (g.faults closed.disk)
      → (core.wrote ≡ true) ⊎ (¬ IsFresh core.journal) → IsSettled (g.may_leave closed.disk) (files_of run))
  -- and then with whatever files and doubt stand for these
  pub calm_with : WhereStore g core.journal (λ opened run. ¬ HasRisen (g.faults core.journal.disk) (g.faults closed.disk) → (core.wrote ≡ true) ⊎ (¬ IsFresh core.journal)
      → (files : Image) (doubt : Option (List FileText)) → IsEither files doubt (files_of run) → IsCalm (g.seen closed.disk) (g.may_leave closed.disk) files doubt)
  pub calm : WhereStore g core.journal (λ opened run. ¬ HasRisen run.faults (g.faults closed.disk) → IsCalm (g.seen closed.disk) (g.may_leave closed.disk) (files_of run) run.doubt)
  -- what a crash leaves, since the opening and now
  pub always : WhereStore g core.journal (λ opened run. LeavesOnly g opened closed.disk (IsReached run.files run.commits run.begun))
  pub now : WhereStore g core.journal (λ opened run. EveryImage (g.may_leave closed.disk) (HasOnly (IsEither (files_of run) run.doubt)))
  pub rests : WhereStore g core.journal (λ opened run. RestsOn g closed.disk (files_of run) run.doubt)
  pub goes : GoesOn g core.journal.disk closed.disk
