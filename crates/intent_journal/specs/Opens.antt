-- What `Journal::open` answers: a journal over the disk, or the disk handed back. This project's own.
use Rattle.std.specs.Prelude.{◌≡◌, ◌==◌, Bool, not, List, length, Option, Some, None, Result, Ok, Err}
use Rattle.kdb_outside.specs.declared.disks.Disk.{Ghosts}
use Rattle.journal_codec.specs.declared.files.FileText.{FileText}
use Rattle.journal_steps.specs.declared.faults.JournalFault.{JournalFault}
use Rattle.journal_steps.specs.declared.faults.JournalRefused.{JournalRefused}
use Rattle.intent_journal.specs.Journal.{JournalValue}
use Rattle.intent_journal.specs.Opened.{opened_files, MayBeLeft, IsFresh}
use Rattle.intent_journal.specs.Openings.{OpensList}
use Rattle.intent_journal.specs.States.{IsHeadInDoubt, IsCalm}

-- the disk, opened or handed back
abbrev pub disk_of : {D : Type 0} → Result (JournalValue D) (JournalRefused D) → D
disk_of (Ok journal) = journal.disk
disk_of (Err refused) = refused.disk

-- why it wasn't opened
abbrev pub fault_of : {D : Type 0} → Result (JournalValue D) (JournalRefused D) → Option JournalFault
fault_of (Ok journal) = None
fault_of (Err refused) = Some refused.fault

-- whether there are entries
abbrev pub has_any : List (List FileText) → Bool
has_any list = not (length list == 0)

-- a journal answers for the entries that were found: it is as its opening left it; and a refusal for the fault
abbrev pub Answers : {D : Type 0} → Result (JournalValue D) (JournalRefused D) → Result (List (List FileText)) JournalFault → Type 0
Answers (Ok journal) (Ok list) = IsFresh journal × (journal.recovered ≡ has_any list)
Answers (Ok journal) (Err fault) = ⊥
Answers (Err refused) (Ok list) = ⊥
Answers (Err refused) (Err fault) = refused.fault ≡ fault

-- the journal was opened on what was found in it, or refused for it
pub record OpensJournal {D : Type 0} (g : Ghosts D) (disk : D) (result : Result (JournalValue D) (JournalRefused D)) : Type 0 where
  pub found : Result (List (List FileText)) JournalFault
  pub answers : Answers result found
  pub opens : OpensList g disk (disk_of result) found

-- a journal over the files that the opening of a calm disk leaves, with what that leaves in doubt
pub record HoldsOpened {D : Type 0} (g : Ghosts D) (disk : D) (journal : JournalValue D) : Type 0 where
  pub later : Option (List FileText)
  pub may_be : MayBeLeft (g.seen disk) later
  pub rests : IsHeadInDoubt (g.may_leave journal.disk) (opened_files (g.seen disk)) later
  pub calm : IsCalm (g.seen journal.disk) (g.may_leave journal.disk) (opened_files (g.seen disk)) later
