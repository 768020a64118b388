-- What `open` promises, by the disk that it was handed, and by its answer. This project's own.
use Rattle.std.specs.Prelude.{◌≡◌, ◌≢◌, ◌⊎◌, ℕ, List, [], Option, Some, true, Result, Ok, Err, IfOk, IfErr, OnOk}
use Rattle.kdb_outside.specs.declared.disks.Disk.{Ghosts}
use Rattle.kdb_outside.specs.Crashes.{EveryImage}
use Rattle.kdb_outside.specs.Faults.{HasRisen}
use Rattle.kdb_outside.specs.Frames.{GoesOn, OnlyReads}
use Rattle.journal_steps.specs.declared.faults.JournalFault.{JournalFault}
use Rattle.journal_steps.specs.declared.faults.JournalFault.TheVariants.{DiskFault, BadJournal, UnknownVersion, Memory}
use Rattle.journal_steps.specs.declared.faults.JournalRefused.{JournalRefused}
use Rattle.intent_journal.specs.Opened.{found_in, bad_place, unknown_version, open_list, opened_files, HasNoFormer, IsKept, IsFresh, MayBeLeft}
use Rattle.intent_journal.specs.Journal.{JournalValue}
use Rattle.journal_steps.specs.Moments.{LeavesOnly}
use Rattle.journal_codec.specs.declared.files.FileText.{FileText}
use Rattle.intent_journal.specs.Opens.{disk_of, fault_of, has_any}
use Rattle.intent_journal.specs.Openings.{LeavesRetired, StaysFound, WhereCalm}
use Rattle.intent_journal.specs.Outcomes.{HasOnly}
use Rattle.journal_steps.specs.Outcomes.{SameFiles, IsEither}
use Rattle.intent_journal.specs.States.{IsRetired, IsCalm}
use Rattle.model_crashes.specs.Runs.{new_run}
use Rattle.store_phases.specs.Stores.{IsStore}

-- a run begins on the files that the opening leaves, with what that leaves in doubt, whichever names the head of its
-- journal will have
pub record HasBegun {D : Type 0} (g : Ghosts D) (disk : D) (journal : JournalValue D) : Type 0 where
  pub later : Option (List FileText)
  pub may_be : MayBeLeft (g.seen disk) later
  pub store : (names : List (List ℕ))
      → IsStore g journal.disk journal (new_run names (opened_files (g.seen disk)) (g.faults disk) later)

pub record OpensRun {D : Type 0} (g : Ghosts D) (disk : D) (result : Result (JournalValue D) (JournalRefused D)) : Type 0 where
  -- a run begins on the files that the opening of a calm disk leaves, with what that leaves in doubt, and on the disk's
  -- own where these are the same
  pub files : WhereCalm g disk (λ files doubt. IsEither files doubt (opened_files (g.seen disk)))
  pub opened : WhereCalm g disk (λ files doubt. IfOk result (λ journal. HasBegun g disk journal))
  pub own : WhereCalm g disk (λ files doubt. SameFiles files (opened_files (g.seen disk))
      → IfOk result (λ journal. (names : List (List ℕ)) → IsStore g journal.disk journal (new_run names files (g.faults disk) doubt)))
  pub shown : WhereCalm g disk (λ files doubt. IfOk result (λ journal. SameFiles (g.seen journal.disk) (opened_files (g.seen disk))))
  pub fresh : IfOk result (λ journal. IsFresh journal)
  pub recovered : g.tells disk ≡ true → IfOk result (λ journal. journal.recovered ≡ has_any (open_list (g.seen disk)))
  -- a disk without an open entry and without a former journal is only read, and so it is before most refusals
  pub reads : g.tells disk ≡ true → HasNoFormer (g.seen disk) → open_list (g.seen disk) ≡ []
      → OnlyReads g disk (disk_of result)
  pub kept : g.tells disk ≡ true → IsKept (g.seen disk)
      → IfErr result (λ refused. refused.fault ≢ DiskFault → OnlyReads g disk refused.disk)
  pub stays : g.tells disk ≡ true → (fault : JournalFault) → found_in (g.seen disk) ≡ Err fault → IsKept (g.seen disk)
      → OnlyReads g disk (disk_of result)
  -- where there is a former journal, it is retired for good, also before the other one is refused
  pub retired : g.tells disk ≡ true → ¬ HasNoFormer (g.seen disk)
      → IfOk result (λ journal. IsRetired (g.may_leave journal.disk))
  pub retires : g.tells disk ≡ true → ¬ IsKept (g.seen disk)
      → IfErr result (λ refused. refused.fault ≢ DiskFault → refused.fault ≢ Memory → LeavesRetired g disk refused.disk)
  -- why it is refused
  pub good : g.tells disk ≡ true → OnOk result (found_in (g.seen disk) ≡ Ok (open_list (g.seen disk)))
  pub bad : g.tells disk ≡ true → (at : ℕ) → fault_of result ≡ Some (BadJournal at) → bad_place (g.seen disk) ≡ Some at
  pub unknown : g.tells disk ≡ true → (version : ℕ) → fault_of result ≡ Some (UnknownVersion version)
      → unknown_version (g.seen disk) ≡ Some version
  pub calm : WhereCalm g disk (λ files doubt.
      ((at : ℕ) → fault_of result ≡ Some (BadJournal at) → ⊥) × ((version : ℕ) → fault_of result ≡ Some (UnknownVersion version) → ⊥))
  pub cause : fault_of result ≡ Some DiskFault → HasRisen (g.faults disk) (g.faults (disk_of result))
  -- what it leaves, and what a crash amid it leaves
  pub calm_still : WhereCalm g disk (λ files doubt. ¬ HasRisen (g.faults disk) (g.faults (disk_of result)) → IsCalm (g.seen (disk_of result)) (g.may_leave (disk_of result)) files doubt)
  pub left : WhereCalm g disk (λ files doubt. fault_of result ≢ Some DiskFault → OnlyReads g disk (disk_of result) ⊎ StaysFound g disk (disk_of result))
  pub any_moment : WhereCalm g disk (λ files doubt. LeavesOnly g disk (disk_of result) (HasOnly (IsEither files doubt)))
  pub rests : WhereCalm g disk (λ files doubt. EveryImage (g.may_leave (disk_of result)) (HasOnly (IsEither files doubt)))
  pub goes : GoesOn g disk (disk_of result)
