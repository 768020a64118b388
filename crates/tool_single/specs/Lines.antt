-- The lines of what refuses an opening. (This project's own.)
use Rattle.std.specs.Prelude.{ℕ, List}
use Rattle.mount_table.specs.Points.{own_point}
use Rattle.store_core.specs.declared.faults.OpenFault.{OpenFault}
use Rattle.store_core.specs.declared.faults.OpenFault.TheVariants.{DiskFault, BadJournal, UnknownVersion, BadTable, TooLong, BadFile, Memory}
use Rattle.store_lines.specs.Lines.{bad_file, bad_journal, bad_table, disk_fault, too_long, out_of_memory, unknown_journal}

abbrev pub line_of_store : OpenFault → List ℕ
line_of_store DiskFault = disk_fault
line_of_store (BadJournal at) = bad_journal at
line_of_store (UnknownVersion version) = unknown_journal version
line_of_store (BadTable fault) = bad_table fault
line_of_store (TooLong bytes) = too_long own_point bytes
line_of_store (BadFile number) = bad_file own_point number
line_of_store Memory = out_of_memory
