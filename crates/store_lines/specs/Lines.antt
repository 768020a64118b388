-- The lines of what a store refuses. (This project's own; the codes are Elektra's.)
use Rattle.std.specs.Prelude.{ℕ, List, ◌∷◌, ◌++◌, codes}
use Rattle.std.specs.Fmt.{decimal}
use Rattle.model_names.specs.Name.{Name}
use Rattle.model_quoting.specs.Quoted.{quoted, shown}
use Rattle.mount_table.specs.declared.faults.TableFault.{TableFault}
use Rattle.mount_table.specs.declared.faults.TableFault.TheVariants.{BadMountpoint, NoPath, BadPath, UnknownPlugin, FileTwice, BadConflicts, TooMany, AlreadyMounted, NotMounted, Memory}
use Rattle.model_specified.specs.declared.violations.Violation.{Violation}

abbrev pub out_of_memory : List ℕ
out_of_memory = codes "C01110 out of memory"

abbrev pub disk_fault : List ℕ
disk_fault = codes "C01100 disk-fault"

-- the file of a mount has more than 1 MiB
abbrev pub too_long : Name → ℕ → List ℕ
too_long mount bytes = codes "C01100 too-long " ++ (shown mount ++ (32 ∷ decimal bytes))

-- the file of a mount has no reading, from this line on
abbrev pub bad_file : Name → ℕ → List ℕ
bad_file mount number = codes "C03100 bad-file " ++ (shown mount ++ (32 ∷ decimal number))

-- the keys of a mount bring the store over its weight
abbrev pub too_heavy : Name → ℕ → List ℕ
too_heavy mount weight = codes "C01100 too-heavy " ++ (shown mount ++ (32 ∷ decimal weight))

-- a set was asked for at a mount whose keys were not got before
abbrev pub not_fetched : Name → List ℕ
not_fetched mount = codes "C01320 not-fetched " ++ shown mount

-- a value or a metadata text of a key has more bytes than are stored
abbrev pub value_too_long : Name → ℕ → List ℕ
value_too_long name bytes = codes "C01100 value-too-long " ++ (shown name ++ (32 ∷ decimal bytes))

-- what the file of a mount would hold is too heavy, or its text too long
abbrev pub file_too_large : Name → ℕ → List ℕ
file_too_large mount amount = codes "C01100 file-too-large " ++ (shown mount ++ (32 ∷ decimal amount))

-- the file of a mount can't hold a key in its format
abbrev pub not_storable : Name → Name → List ℕ
not_storable mount key = codes "C03200 not-storable " ++ (shown mount ++ (32 ∷ shown key))

-- all keys of the store would be too heavy
abbrev pub history_full : ℕ → List ℕ
history_full weight = codes "C01100 history-full " ++ decimal weight

-- a gate of the journal is open, and no whole head or no whole body of an entry stands behind it: the place, in a body
-- of the former journal or in the file
abbrev pub bad_journal : ℕ → List ℕ
bad_journal at = codes "C03100 bad-journal " ++ decimal at

-- the journal has a version that isn't known
abbrev pub unknown_journal : ℕ → List ℕ
unknown_journal version = codes "C03100 journal-version " ++ decimal version

abbrev pub database_full : ℕ → List ℕ
database_full weight = codes "C01100 database-full " ++ decimal weight

-- what is wrong with an entry of a mount table
abbrev pub bad_entry : List ℕ → List ℕ → List ℕ
bad_entry cause entry = codes "C03200 bad-table " ++ (cause ++ (32 ∷ quoted entry))

-- what is wrong with a mount table; want of memory has its own line
abbrev pub bad_table : TableFault → List ℕ
bad_table (BadMountpoint entry) = bad_entry (codes "bad-mountpoint") entry
bad_table (NoPath entry) = bad_entry (codes "no-path") entry
bad_table (BadPath entry) = bad_entry (codes "bad-path") entry
bad_table (UnknownPlugin entry) = bad_entry (codes "unknown-plugin") entry
bad_table (FileTwice entry) = bad_entry (codes "file-twice") entry
bad_table (BadConflicts entry) = bad_entry (codes "bad-conflicts") entry
bad_table (TooMany count) = codes "C03200 bad-table too-many " ++ decimal count
bad_table (AlreadyMounted entry) = bad_entry (codes "already-mounted") entry
bad_table (NotMounted entry) = bad_entry (codes "not-mounted") entry
bad_table Memory = out_of_memory

-- a key, the rule that it breaks by its number, and the text that is given of it
abbrev pub broken_rule : Violation → List ℕ
broken_rule violation =
    shown violation.key ++ (codes " rule " ++ (decimal violation.rule ++ (codes " given " ++ quoted violation.given)))

-- a set would break a rule
abbrev pub invalid : Violation → List ℕ
invalid violation = codes "C03200 invalid " ++ broken_rule violation
