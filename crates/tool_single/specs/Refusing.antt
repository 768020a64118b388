-- What is told of a set that wasn't committed, by why it wasn't. (This project's own.)
use Rattle.std.specs.Prelude.{◌≡◌, Result, Ok, Err}
use Rattle.store_core.specs.declared.committing.CommitFault.{CommitFault}
use Rattle.store_core.specs.declared.committing.CommitFault.TheVariants.{Conflict, FileTooLarge, Invalid, DatabaseFull, HistoryFull, DiskFault, Memory}
use Rattle.store_lines.specs.Lines.{invalid, database_full, history_full}
use Rattle.tool_commands.specs.Report.{Report, warned}
use Rattle.tool_commands.specs.StepView.{report_of}
use Rattle.tool_commands.specs.declared.reports.Report as code
use Rattle.tool_single.specs.declared.answers.Stop.{Stop}
use Rattle.tool_single.specs.declared.answers.Stop.TheVariants as stops

-- this is told, or memory was wanting for it
abbrev pub Tells : Report → Result code.Report Stop → Type 0
Tells wanted (Ok report) = report_of report ≡ wanted
Tells wanted (Err stop) = stop ≡ stops.Memory

abbrev pub IsRefusalOf : CommitFault → Result code.Report Stop → Type 0
IsRefusalOf (Conflict mount by front) result = ⊥
IsRefusalOf (FileTooLarge mount bytes front) result = ⊥
IsRefusalOf (Invalid violation front) result = Tells (warned 5 (invalid violation)) result
IsRefusalOf (DatabaseFull weight front) result = Tells (warned 5 (database_full weight)) result
IsRefusalOf (HistoryFull weight front) result = Tells (warned 5 (history_full weight)) result
IsRefusalOf (DiskFault front) result = result ≡ Err stops.DiskFault
IsRefusalOf Memory result = result ≡ Err stops.Memory
