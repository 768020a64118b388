-- The commands that change the mount table. (This project's own.)
use Rattle.std.specs.Prelude.{[], Result, Ok, Err}
use Rattle.model_maps.specs.KeyMap.{KeyMap}
use Rattle.mount_table.specs.declared.faults.TableFault.{TableFault}
use Rattle.store_lines.specs.Lines.{bad_table}
use Rattle.tool_commands.specs.Report.{warned}
use Rattle.tool_commands.specs.Step.{Step, Tells, Sets}

-- `mount` and `umount`, by the table's keys behind it or what is wrong
abbrev pub mounted : Result KeyMap TableFault → Step
mounted (Ok keys) = Sets keys []
mounted (Err fault) = Tells (warned 5 (bad_table fault))
