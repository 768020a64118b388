-- Why a store isn't opened, by what was refused on the way, and what each cause tells. (This project's own.)
use Rattle.std.specs.Prelude.{◌≡◌, List, ℕ}
use Rattle.backend_files.specs.declared.reading.FileFault.{FileFault}
use Rattle.backend_files.specs.declared.reading.FileFault.TheVariants as file
use Rattle.journal_steps.specs.declared.faults.JournalFault.{JournalFault}
use Rattle.journal_steps.specs.declared.faults.JournalFault.TheVariants as journal
use Rattle.mounted_files.specs.Files.{Reading, Badness}
use Rattle.mounted_files.specs.Opening.{RefusesOpening}
use Rattle.mounted_files.specs.declared.refusals.OpenRefusal.{OpenRefusal}
use Rattle.mounted_files.specs.declared.refusals.OpenRefusal.TheVariants as refusal
use Rattle.store_core.specs.declared.faults.OpenFault.{OpenFault}
use Rattle.store_core.specs.declared.faults.OpenFault.TheVariants.{DiskFault, BadJournal, UnknownVersion, BadTable, TooLong, BadFile, Memory}

abbrev pub of_file : FileFault → OpenFault
of_file file.DiskFault = DiskFault
of_file file.Memory = Memory

abbrev pub of_journal : JournalFault → OpenFault
of_journal journal.DiskFault = DiskFault
of_journal (journal.BadJournal at) = BadJournal at
of_journal (journal.UnknownVersion version) = UnknownVersion version
of_journal journal.Memory = Memory

abbrev pub of_refusal : OpenRefusal → OpenFault
of_refusal (refusal.TooLong bytes) = TooLong bytes
of_refusal (refusal.BadFile line) = BadFile line
of_refusal (refusal.BadTable fault) = BadTable fault
of_refusal refusal.Memory = Memory

-- why a store isn't opened, by the bytes of the file of the table's own keys; the disk, its journal and want of memory
-- have causes of their own
abbrev pub RefusesStore : Reading → Badness → List ℕ → OpenFault → Type 0
RefusesStore Reads IsBad bytes (TooLong n) = RefusesOpening Reads IsBad bytes (refusal.TooLong n)
RefusesStore Reads IsBad bytes (BadFile line) = RefusesOpening Reads IsBad bytes (refusal.BadFile line)
RefusesStore Reads IsBad bytes (BadTable fault) = RefusesOpening Reads IsBad bytes (refusal.BadTable fault)
RefusesStore Reads IsBad bytes DiskFault = Unit {0}
RefusesStore Reads IsBad bytes (BadJournal at) = Unit {0}
RefusesStore Reads IsBad bytes (UnknownVersion version) = Unit {0}
RefusesStore Reads IsBad bytes Memory = Unit {0}

-- why a store isn't opened whose journal has a head or an open entry that isn't whole: for that, by its place, unless
-- the disk failed or memory was wanting
abbrev pub RefusesBroken : ℕ → OpenFault → Type 0
RefusesBroken place DiskFault = Unit {0}
RefusesBroken place (BadJournal at) = at ≡ place
RefusesBroken place (UnknownVersion version) = ⊥
RefusesBroken place (BadTable fault) = ⊥
RefusesBroken place (TooLong bytes) = ⊥
RefusesBroken place (BadFile line) = ⊥
RefusesBroken place Memory = Unit {0}

-- why a store isn't opened whose journal has a version that isn't known: for that, unless the disk failed or memory was
-- wanting
abbrev pub RefusesUnknown : ℕ → OpenFault → Type 0
RefusesUnknown version DiskFault = Unit {0}
RefusesUnknown version (BadJournal at) = ⊥
RefusesUnknown version (UnknownVersion found) = found ≡ version
RefusesUnknown version (BadTable fault) = ⊥
RefusesUnknown version (TooLong bytes) = ⊥
RefusesUnknown version (BadFile line) = ⊥
RefusesUnknown version Memory = Unit {0}
