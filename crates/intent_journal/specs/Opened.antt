-- What the opening of a journal finds in an image, and the files that it leaves. This project's own.
use Rattle.std.specs.Prelude.{◌≡◌, ◌≢◌, ◌⊎◌, ℕ, ◌<◌, true, false, List, [], ◌++◌, length, Option, Some, None, Result, Ok, Err}
use Rattle.kdb_outside.specs.Images.{Image}
use Rattle.journal_codec.specs.declared.files.FileText.{FileText}
use Rattle.journal_codec.specs.Entry.{journal_name, journal2_name}
use Rattle.journal_lists.specs.Grammar.{head_size}
use Rattle.journal_lists.specs.Journals.{former_in, journal_in}
use Rattle.journal_steps.specs.declared.faults.JournalFault.{JournalFault}
use Rattle.journal_steps.specs.declared.faults.JournalFault.TheVariants.{DiskFault, BadJournal, UnknownVersion, Memory}
use Rattle.journal_steps.specs.Outcomes.{with_entries}
use Rattle.intent_journal.specs.Journal.{JournalValue}

-- entries of `journal`, and behind them those of `journal2`
abbrev pub with_former : Result (List (List FileText)) JournalFault → Result (List (List FileText)) JournalFault → Result (List (List FileText)) JournalFault
with_former (Err fault) found = Err fault
with_former (Ok former) (Err fault) = Err fault
with_former (Ok former) (Ok entries) = Ok (former ++ entries)

-- the open entries of an image, or why it isn't opened
abbrev pub found_in : Image → Result (List (List FileText)) JournalFault
found_in seen = with_former (former_in (seen journal_name)) (journal_in (seen journal2_name))

abbrev pub entries_found : Result (List (List FileText)) JournalFault → List (List FileText)
entries_found (Ok entries) = entries
entries_found (Err fault) = []

-- the place that a fault tells, and the version
abbrev pub place_of : JournalFault → Option ℕ
place_of DiskFault = None
place_of (BadJournal at) = Some at
place_of (UnknownVersion version) = None
place_of Memory = None

abbrev pub version_in : JournalFault → Option ℕ
version_in DiskFault = None
version_in (BadJournal at) = None
version_in (UnknownVersion version) = Some version
version_in Memory = None

abbrev pub told_by : (JournalFault → Option ℕ) → Result (List (List FileText)) JournalFault → Option ℕ
told_by tell (Ok entries) = None
told_by tell (Err fault) = tell fault

-- the open entries that are read, and none where the image isn't opened
abbrev pub open_list : Image → List (List FileText)
open_list seen = entries_found (found_in seen)

-- the place of what isn't whole, if an opening finds it
abbrev pub bad_place : Image → Option ℕ
bad_place seen = told_by place_of (found_in seen)

-- the version of the journal, if an opening finds one that it doesn't know
abbrev pub unknown_version : Image → Option ℕ
unknown_version seen = told_by version_in (found_in seen)

-- the files that the opening of a disk leaves that is read as this: open entries are brought in
abbrev pub opened_files : Image → Image
opened_files seen = with_entries seen (open_list seen)

-- what the opening of such a disk may leave in doubt: nothing, where it brought entries in
abbrev pub MayBeLeft : Image → Option (List FileText) → Type 0
MayBeLeft seen later = open_list seen ≢ [] → later ≡ None

-- the former journal is too short to be looked at
abbrev pub HasNoFormer : Image → Type 0
HasNoFormer seen = length (seen journal_name) < head_size

-- an opening has nothing to write before it refuses: there is no former journal, or that isn't whole itself
abbrev pub IsKept : Image → Type 0
IsKept seen = HasNoFormer seen ⊎ ((fault : JournalFault) × (former_in (seen journal_name) ≡ Err fault))

-- a journal is as its opening left it: no entry waits, and the header gate is in doubt
abbrev pub IsFresh : {D : Type 0} → JournalValue D → Type 0
IsFresh journal = (journal.headed ≡ false) × (journal.list ≡ []) × (journal.in_doubt ≡ true)
