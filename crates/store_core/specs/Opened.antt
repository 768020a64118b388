-- What an opening answers: the disk, the matcher and, where it was refused, why. (This project's own.)
use Rattle.std.specs.Prelude.{Bool, true, false, Option, Some, None, Result, Ok, Err}
use Rattle.intent_journal.specs.Openings.{StaysFound}
use Rattle.kdb_outside.specs.Frames.{OnlyReads}
use Rattle.kdb_outside.specs.declared.disks.Disk.{Ghosts}
use Rattle.store_core.specs.declared.faults.OpenFault.{OpenFault}
use Rattle.store_core.specs.declared.faults.OpenFault.TheVariants.{DiskFault, BadJournal, UnknownVersion, BadTable, TooLong, BadFile, Memory}
use Rattle.store_core.specs.declared.faults.OpenRefused.{OpenRefused}
use Rattle.store_core.specs.declared.opening.Opened.{Opened}

-- the disk, under the core or handed back
abbrev pub disk_of : {D F P : Type 0} → Result (Opened D F P) (OpenRefused D P) → D
disk_of (Ok opened) = opened.core.journal.disk
disk_of (Err refused) = refused.disk

-- the matcher, in the core or handed back
abbrev pub patterns_of : {D F P : Type 0} → Result (Opened D F P) (OpenRefused D P) → P
patterns_of (Ok opened) = opened.core.patterns
patterns_of (Err refused) = refused.patterns

-- why it wasn't opened
abbrev pub fault_of : {D F P : Type 0} → Result (Opened D F P) (OpenRefused D P) → Option OpenFault
fault_of (Ok opened) = None
fault_of (Err refused) = Some refused.fault

-- the opening of the journal may be refused so too; the other causes are found in a file of the store, behind it
abbrev pub may_be_of_journal : Option OpenFault → Bool
may_be_of_journal None = false
may_be_of_journal (Some DiskFault) = true
may_be_of_journal (Some (BadJournal at)) = true
may_be_of_journal (Some (UnknownVersion version)) = true
may_be_of_journal (Some (BadTable fault)) = false
may_be_of_journal (Some (TooLong bytes)) = false
may_be_of_journal (Some (BadFile line)) = false
may_be_of_journal (Some Memory) = true

-- what an opening leaves of a calm disk that didn't fail: it was only read; or it was written, and shows the files that
-- it had or those of the opening, and the next opening finds the same files
pub data IsLeft {D : Type 0} (g : Ghosts D) (disk end : D) : Type 0 where
  StillRead : OnlyReads g disk end → IsLeft g disk end
  StillFound : StaysFound g disk end → IsLeft g disk end
