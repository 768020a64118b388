-- How a run ends, as the top call says it. (This project's own.)
use Rattle.std.specs.Prelude.{◌≡◌, ◌⊎◌, ℕ, []}
use Rattle.tool_commands.specs.Lines.{line, read_fault, write_fault}
use Rattle.store_lines.specs.Lines.{disk_fault, out_of_memory}
use Rattle.tool_words.specs.Lines.{not_writable}
use Rattle.tool_commands.specs.Report.{IsAnswered, IsEnd, Report, warned}
use Rattle.tool_words.specs.Request.{Request, Refuses, Bars, Asks, Imports}
use Rattle.tool_single.specs.Untold.{IsStatusOf}
use Rattle.kdb_outside.specs.SinkChange.{SinkChange as Change}
use Rattle.tool_single.specs.Outcome.{Failed, Gives, Gains}

-- a sink failed, so that the status is that of a fault
abbrev pub LosesSink : ℕ → Change → Change → Type 0
LosesSink status out err = (status ≡ 74) × (Failed out ⊎ Failed err)

-- words that are refused end a run so: it told the line, memory was wanting, or a sink failed
pub data EndsRefused (report : Report) (status : ℕ) (out err : Change) : Type 0 where
  Refused : Gives report status out err → EndsRefused report status out err
  NoMemory : status ≡ 70 → EndsRefused report status out err
  SinkFails : LosesSink status out err → EndsRefused report status out err

-- words that ask the store for nothing decide how a run ends; a question to the store ends with its own statuses alone,
-- and an import with 0 or 5
abbrev pub EndsByWords : Request → ℕ → Change → Change → Type 0
EndsByWords (Refuses code text) status out err = EndsRefused (warned code text) status out err
EndsByWords (Bars name) status out err = EndsRefused (warned 2 (not_writable name)) status out err
EndsByWords (Asks question) status out err = IsAnswered status → IsStatusOf question status
EndsByWords (Imports name kind) status out err = IsAnswered status → IsEnd [] status

abbrev pub EndsWithoutMemory : ℕ → Change → Change → Type 0
EndsWithoutMemory status out err = status ≡ 70 → Gives (warned 70 out_of_memory) status out err

-- which fault ended a run: the disk's, the input's or out's, of which err tells, or err's
pub data FaultCause (disk_failed input_failed : Type 0) (status : ℕ) (out err : Change) : Type 0 where
  OfDisk : disk_failed → Gives (warned 74 disk_fault) status out err
      → FaultCause disk_failed input_failed status out err
  OfInput : input_failed → Gives (warned 74 read_fault) status out err
      → FaultCause disk_failed input_failed status out err
  OfOut : Failed out → Gains err.held_before err.held_now (line write_fault)
      → FaultCause disk_failed input_failed status out err
  OfErr : Failed err → FaultCause disk_failed input_failed status out err

abbrev pub EndsInFault : Type 0 → Type 0 → ℕ → Change → Change → Type 0
EndsInFault disk_failed input_failed status out err = status ≡ 74 → FaultCause disk_failed input_failed status out err
