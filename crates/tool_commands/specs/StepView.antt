-- Reports and steps as the code has them, seen as what they are. (This project's own.)
use Rattle.std.specs.Prelude.{string_bytes}
use Rattle.tool_commands.specs.declared.reports.Report as code_report
use Rattle.tool_commands.specs.declared.steps.Step as code_step
use Rattle.tool_commands.specs.declared.steps.Step.TheVariants as code_steps
use Rattle.tool_commands.specs.Report.{Report}
use Rattle.tool_commands.specs.Step.{Step, Tells, Sets}

abbrev pub report_of : code_report.Report → Report
report_of report = record { status = report.status; out = report.out.items; err = string_bytes report.err }

abbrev pub seen_step : code_step.Step → Step
seen_step (code_steps.Tells report) = Tells (report_of report)
seen_step (code_steps.Sets keys out) = Sets keys (string_bytes out)
