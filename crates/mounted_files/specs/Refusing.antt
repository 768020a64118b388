-- How the faults of a table and of a file refuse an opening, as the code has it.
use Rattle.std.specs.Prelude.{◌≡◌, Result, Err, List}
use Rattle.general_words.specs.Memory.{UnlessMemory}
use Rattle.mount_table.specs.declared.faults.TableFault.{TableFault}
use Rattle.mount_table.specs.declared.mounts.Mount.{Mount}
use Rattle.mounted_files.specs.declared.causes.Cause.{Cause}
use Rattle.mounted_files.specs.declared.causes.Cause.TheVariants as cause
use Rattle.mounted_files.specs.declared.refusals.OpenRefusal.{OpenRefusal}
use Rattle.mounted_files.specs.declared.refusals.OpenRefusal.TheVariants.{TooLong, BadFile, BadTable, Memory}

-- keys make no table, and a refusal tells their fault
pub record IsTableFault (made : Result (List Mount) TableFault) (refusal : OpenRefusal) : Type 0 where
  pub fault : TableFault
  pub at_fault : made ≡ Err fault
  pub is : refusal ≡ BadTable fault

-- a refusal is for the fault of a table; want of memory tells nothing
abbrev pub RefusesTable : Result (List Mount) TableFault → OpenRefusal → Type 0
RefusesTable made refusal = UnlessMemory Memory (IsTableFault made refusal) refusal

-- a refusal tells what is wrong with the own file, which is never what it weighs beside others
abbrev pub IsRefusalFor : Cause → OpenRefusal → Type 0
IsRefusalFor (cause.TooLong bytes) refusal = refusal ≡ TooLong bytes
IsRefusalFor (cause.BadFile line) refusal = refusal ≡ BadFile line
IsRefusalFor (cause.TooHeavy weight) refusal = ⊥
