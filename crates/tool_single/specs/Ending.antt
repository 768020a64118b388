-- What a run puts out in the end: its answer, or why there is none. (This project's own.)
use Rattle.std.specs.Prelude.{Result, Ok, Err}
use Rattle.tool_single.specs.declared.answers.Stop.{Stop}
use Rattle.tool_single.specs.declared.answers.Stop.TheVariants as stops
use Rattle.tool_commands.specs.Lines.{read_fault}
use Rattle.store_lines.specs.Lines.{disk_fault, out_of_memory}
use Rattle.tool_commands.specs.Report.{Report, warned}
use Rattle.tool_commands.specs.StepView.{report_of}
use Rattle.tool_commands.specs.declared.reports.Report as code

-- the line that tells why there is no answer, with its status
abbrev pub stopped : Stop → Report
stopped stops.Memory = warned 70 out_of_memory
stopped stops.DiskFault = warned 74 disk_fault
stopped stops.ReadFault = warned 74 read_fault

abbrev pub ending : Result code.Report Stop → Report
ending (Ok report) = report_of report
ending (Err stop) = stopped stop
