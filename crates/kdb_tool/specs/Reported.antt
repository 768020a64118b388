-- What is known of a batch's answer whatever the disk tells. (This project's own.)
use Rattle.std.specs.Prelude.{◌≡◌, ◌≢◌, [], Result, Ok, Err}
use Rattle.kdb_outside.specs.Frames.{OnlyReads}
use Rattle.kdb_outside.specs.declared.disks.Disk.{Ghosts}
use Rattle.tool_commands.specs.Report.{IsAnswered, Report}
use Rattle.tool_commands.specs.declared.reports.Report as code
use Rattle.tool_single.specs.declared.answers.Stop.{Stop}
use Rattle.tool_single.specs.declared.answers.Stop.TheVariants as stops

-- a report has a status of its own, or is that of replies, which tell a fault of the disk only where one came
pub data IsReported (failed : Type 0) (report : Report) : Type 0 where
  Own : IsAnswered report.status → IsReported failed report
  OfReplies : report.err ≡ [] → (report.status ≡ 74 → failed) → IsReported failed report

-- a fault of the disk ended the work, or is among the replies
abbrev pub IsOfDisk : Result code.Report Stop → Type 0
IsOfDisk (Ok report) = report.status ≡ 74
IsOfDisk (Err stops.Memory) = ⊥
IsOfDisk (Err stops.DiskFault) = Unit {0}
IsOfDisk (Err stops.ReadFault) = ⊥

-- a batch that is refused only reads the disk
abbrev pub StoresNone : {D : Type 0} → Ghosts D → Result code.Report Stop → D → D → Type 0
StoresNone g (Ok report) before after = report.status ≢ 0 → IsAnswered report.status → OnlyReads g before after
StoresNone g (Err stop) before after = Unit {0}
