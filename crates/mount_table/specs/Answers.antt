-- What an answer of the table's calls tells. Want of memory tells nothing. (This project's own.)
use Rattle.std.specs.Prelude.{◌≡◌, Result, Ok, Err}
use Rattle.general_words.specs.Memory.{UnlessMemory}
use Rattle.mount_table.specs.declared.faults.TableFault.{TableFault}
use Rattle.mount_table.specs.declared.faults.TableFault.TheVariants.{BadMountpoint, NoPath, BadPath, UnknownPlugin, FileTwice, BadConflicts, TooMany, AlreadyMounted, NotMounted, Memory}

-- a fault is the one that comes
abbrev pub IsFault : {A : Type 0} → Result A TableFault → TableFault → Type 0
IsFault wanted fault = UnlessMemory Memory (wanted ≡ Err fault) fault

-- an answer is the one that is wanted
abbrev pub Gives : {A : Type 0} → Result A TableFault → Result A TableFault → Type 0
Gives (Ok x) wanted = wanted ≡ Ok x
Gives (Err fault) wanted = IsFault wanted fault

-- a fault for which a table is refused: neither one of adding or removing an entry, nor want of memory
abbrev pub IsOfTable : TableFault → Type 0
IsOfTable (BadMountpoint entry) = Unit {0}
IsOfTable (NoPath entry) = Unit {0}
IsOfTable (BadPath entry) = Unit {0}
IsOfTable (UnknownPlugin entry) = Unit {0}
IsOfTable (FileTwice entry) = Unit {0}
IsOfTable (BadConflicts entry) = Unit {0}
IsOfTable (TooMany count) = Unit {0}
IsOfTable (AlreadyMounted entry) = ⊥
IsOfTable (NotMounted entry) = ⊥
IsOfTable Memory = ⊥
