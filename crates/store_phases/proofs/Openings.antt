-- The run that an opening begins.
use Rattle.std.proofs.Common.{◌≡◌, ◌≢◌, ◌≤◌, ℕ, List, [], true, false, Option, Some, Result, Ok, Err, refl, ◌∙◌}
use Rattle.std.specs.Prelude.{IfOk}
use Rattle.kdb_outside.specs.declared.disks.Disk.{Ghosts}
use Rattle.kdb_outside.specs.Crashes.{EveryImage}
use Rattle.kdb_outside.specs.Frames.{GoesOn}
use Rattle.kdb_outside.specs.Images.{Image}
use Rattle.journal_codec.specs.declared.files.FileText.{FileText}
use Rattle.journal_steps.specs.declared.faults.JournalFault.TheVariants.{DiskFault}
use Rattle.journal_steps.specs.declared.faults.JournalRefused.{JournalRefused}
use Rattle.journal_steps.specs.Moments.{LeavesOnly}
use Rattle.journal_steps.specs.Outcomes.{SameFiles}
use Rattle.intent_journal.specs.Journal.{JournalValue}
use Rattle.intent_journal.specs.Opened.{opened_files, IsFresh}
use Rattle.intent_journal.specs.Opens.{HoldsOpened, disk_of, fault_of}
use Rattle.intent_journal.specs.States.{IsHeadInDoubt, IsCalm}
use Rattle.intent_journal.proofs.Opened.{opened_shown}
use Rattle.model_crashes.specs.Runs.{new_run}
use Rattle.store_phases.specs.Opens.{HasBegun}
use Rattle.store_phases.specs.Stores.{IsStore}
use Rattle.store_phases.proofs.Resting.{not_both, rests_at}
use Rattle.store_phases.proofs.Stores.{IsStore-new}

-- a fresh journal over a disk with these files and this doubt, whichever names its head will have
run_on : {D : Type 0} (g : Ghosts D) (journal : JournalValue D) (files : Image) (faults : ℕ)
    (doubt : Option (List FileText)) → g.tells journal.disk ≡ true → faults ≤ g.faults journal.disk → IsFresh journal
    → IsHeadInDoubt (g.may_leave journal.disk) files doubt
    → IsCalm (g.seen journal.disk) (g.may_leave journal.disk) files doubt
    → (names : List (List ℕ)) → IsStore g journal.disk journal (new_run names files faults doubt)
run_on g journal files faults doubt tells later fresh doubtful calm names =
    IsStore-new g journal names files faults doubt later
    (rests_at g journal names files files [] doubt false true fresh.0 fresh.2 fresh.1 tells refl (λ on. absurd (not_both false refl on)) (refl, doubtful)) calm

module _ {D : Type 0} (g : Ghosts D) (disk : D) where
  -- the run on the files that the opening leaves
  pub opened_run : (result : Result (JournalValue D) (JournalRefused D)) → g.tells disk ≡ true
      → GoesOn g disk (disk_of result) → IfOk result IsFresh → IfOk result (HoldsOpened g disk)
      → IfOk result (HasBegun g disk)
  opened_run (Ok journal) tells goes fresh holds = record {
    later = holds.later;
    may_be = holds.may_be;
    store = run_on g journal (opened_files (g.seen disk)) (g.faults disk) holds.later (goes.tells ∙ tells) goes.later fresh holds.rests holds.calm;
  }
  opened_run (Err refused) tells goes fresh holds = tt

  -- and on the calm disk's own files
  pub opened_own_run : (result : Result (JournalValue D) (JournalRefused D)) (files : Image)
      (doubt : Option (List FileText)) → g.tells disk ≡ true → GoesOn g disk (disk_of result) → IfOk result IsFresh
      → IfOk result (λ journal. IsHeadInDoubt (g.may_leave journal.disk) files doubt)
      → IfOk result (λ journal. IsCalm (g.seen journal.disk) (g.may_leave journal.disk) files doubt)
      → IfOk result (λ journal. (names : List (List ℕ)) → IsStore g journal.disk journal (new_run names files (g.faults disk) doubt))
  opened_own_run (Ok journal) files doubt tells goes fresh doubtful calm =
      run_on g journal files (g.faults disk) doubt (goes.tells ∙ tells) goes.later fresh doubtful calm
  opened_own_run (Err refused) files doubt tells goes fresh doubtful calm = tt

  -- an opened journal's disk is calm
  pub calm_behind : (result : Result (JournalValue D) (JournalRefused D)) (files : Image)
      (doubt : Option (List FileText))
      → (fault_of result ≢ Some DiskFault → IsCalm (g.seen (disk_of result)) (g.may_leave (disk_of result)) files doubt)
      → IfOk result (λ journal. IsCalm (g.seen journal.disk) (g.may_leave journal.disk) files doubt)
  calm_behind (Ok journal) files doubt calm = calm (λ is. cc)
  calm_behind (Err refused) files doubt calm = tt

  -- what is read behind it are the files that it leaves
  pub shown_behind : (result : Result (JournalValue D) (JournalRefused D)) → g.tells disk ≡ true
      → GoesOn g disk (disk_of result) → IfOk result (HoldsOpened g disk)
      → IfOk result (λ journal. SameFiles (g.seen journal.disk) (opened_files (g.seen disk)))
  shown_behind (Ok journal) tells goes holds = opened_shown g disk journal (goes.tells ∙ tells) holds
  shown_behind (Err refused) tells goes holds = tt

-- what held of each crash since a moment holds of each that comes now
pub rests_since : {D : Type 0} (g : Ghosts D) (old new : D) (P : Image → Type 0) → g.tells old ≡ true → GoesOn g old new
    → LeavesOnly g old new P → EveryImage (g.may_leave new) P
rests_since g old new P tells goes only image is =
    only.each image (g.counts_now new (g.moment old) image (goes.tells ∙ tells) goes.moment is)
