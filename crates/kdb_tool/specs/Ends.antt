-- How a batch ends. (This project's own.)
use Rattle.std.specs.Prelude.{◌≡◌, ◌⊎◌, ℕ, true, false, List, []}
use Rattle.batch_script.specs.declared.steps.Script.{Script}
use Rattle.kdb_outside.specs.SinkChange.{SinkChange as Change}
use Rattle.store_lines.specs.Lines.{out_of_memory}
use Rattle.tool_commands.specs.Report.{IsAnswered, Report, warned}
use Rattle.tool_words.specs.Lines.{options_refused}
use Rattle.tool_single.specs.Answer.{tells}
use Rattle.tool_single.specs.Ends.{EndsRefused, FaultCause}
use Rattle.tool_single.specs.Outcome.{Gives}
use Rattle.kdb_tool.specs.Scripts.{AsksFor, takes_words}
use Rattle.kdb_tool.specs.Unplayed.{RefusesScript}

-- the whole text of a batch stands on out with a status, and nothing on err
abbrev pub GivesText : ℕ → ℕ → Change → Change → Type 0
GivesText code status out err = (text : List ℕ) × Gives (record { status = code; out = text; err = [] }) status out err

-- words that are refused decide alone
abbrev pub EndsByWords : List (List ℕ) → ℕ → Change → Change → Type 0
EndsByWords words status out err = takes_words words ≡ false → EndsRefused (warned 1 options_refused) status out err

-- want of memory is told on err, with nothing on out, or is that of a step, among the replies
abbrev pub EndsWithoutMemory : ℕ → Change → Change → Type 0
EndsWithoutMemory status out err =
    status ≡ 70 → Gives (warned 70 out_of_memory) status out err ⊎ GivesText 70 status out err

-- a fault has its cause in this call, or is that of a set, among the replies
abbrev pub EndsInFault : Type 0 → Type 0 → ℕ → Change → Change → Type 0
EndsInFault disk_failed input_failed status out err =
    status ≡ 74 → FaultCause disk_failed input_failed status out err ⊎ (disk_failed × GivesText 74 status out err)

-- what is told where the store isn't opened for its journal, by the line that refuses it: a script that is refused is
-- told before that
pub data TellsOfJournal (words : List (List ℕ)) (input line : List ℕ) (report : Report) : Type 0 where
  WordsRefused : takes_words words ≡ false → report ≡ warned 1 options_refused → TellsOfJournal words input line report
  ScriptRefused : takes_words words ≡ true → RefusesScript input (tells report) → TellsOfJournal words input line report
  JournalRefused : (script : Script) → AsksFor words input script → report ≡ warned 5 line
      → TellsOfJournal words input line report

-- a run that ends neither in want of memory nor in a fault ends so, where the journal is refused
abbrev pub EndsByJournal : List (List ℕ) → (input line : List ℕ) → ℕ → Change → Change → Type 0
EndsByJournal words input line status out err =
    IsAnswered status → (report : Report) × TellsOfJournal words input line report × Gives report status out err
