-- What a generated run is asked for, and how its work ends, as the code has it. (This project's own.)
use Rattle.std.specs.Prelude.{◌≡◌, ◌≤◌, ℕ, List, Option, Some, Result, Ok, Err}
use Rattle.kdb_gen.specs.Generated.{most_rounds}
use Rattle.kdb_gen.specs.Tallies.{tally_of}
use Rattle.kdb_handle.specs.declared.replies.Transcripts.{Transcripts}
use Rattle.kdb_print.specs.Replies.{status_of}
use Rattle.kdb_tool.specs.Generated.{ComesTo, PlaysRounds}
use Rattle.kdb_tool.specs.Rounds.{Plays, Refuses, Rounds}
use Rattle.kdb_tool.specs.RunsGenerated.{summed}
use Rattle.kdb_tool.specs.declared.rounds.Wanted.{Wanted}
use Rattle.kdb_tool.specs.declared.rounds.Wanted.TheVariants as wanted
use Rattle.model_history.specs.History.{Commit}
use Rattle.tool_commands.specs.Report.{IsAnswered, warned}
use Rattle.tool_commands.specs.StepView.{report_of}
use Rattle.tool_commands.specs.declared.reports.Report as code
use Rattle.tool_single.specs.Refusing.{Tells}
use Rattle.tool_single.specs.declared.answers.Stop.{Stop}
use Rattle.tool_single.specs.declared.answers.Stop.TheVariants as stops

-- so many rounds can be played
pub record ArePlayable (rounds : ℕ) : Type 0 where
  pub some : 1 ≤ rounds
  pub limit : rounds ≤ most_rounds

-- what is wanted is what words ask for
abbrev pub IsWanted : Rounds → Wanted → Type 0
IsWanted (Plays rounds) (wanted.Play number) = number ≡ rounds
IsWanted (Plays rounds) (wanted.Refuse report) = ⊥
IsWanted (Refuses code text) (wanted.Play number) = ⊥
IsWanted (Refuses code text) (wanted.Refuse report) = report_of report ≡ warned code text

-- rounds that are wanted can be played, and a refusal has a status of its own
abbrev pub IsFit : Wanted → Type 0
IsFit (wanted.Play number) = ArePlayable number
IsFit (wanted.Refuse report) = IsAnswered report.status

-- the replies are well, and the history comes to the tally of so many rounds
pub record ComesOut (rounds : ℕ) (transcripts : Option Transcripts) (history : List Commit) : Type 0 where
  pub replies : Transcripts
  pub is : transcripts ≡ Some replies
  pub well : status_of replies.phases ≡ 0
  pub comes_to : ComesTo history (tally_of rounds)

-- the summary of a run is told, or memory was wanting
abbrev pub TellsIf : ℕ → Type 0 → Result code.Report Stop → Type 0
TellsIf rounds Played (Ok report) = (report_of report ≡ summed rounds) × Played
TellsIf rounds Played (Err stop) = stop ≡ stops.Memory

-- what words of a generated run come to
abbrev pub TellsGenerated : Rounds → Result code.Report Stop → Type 0
TellsGenerated (Plays rounds) answer = TellsIf rounds (PlaysRounds rounds) answer
TellsGenerated (Refuses code text) answer = Tells (warned code text) answer
