-- What a batch is asked for, as the code has it. (This project's own.)
use Rattle.std.specs.Prelude.{◌≡◌, ℕ, true, false, List}
use Rattle.batch_script.specs.Scripts as script
use Rattle.batch_run.specs.Played.{IsPlayable}
use Rattle.kdb_tool.specs.Lines.{bad_line, script_too_long}
use Rattle.kdb_tool.specs.Scripts.{IsShortScript, taken, takes_words}
use Rattle.kdb_tool.specs.declared.tasks.NoScript.{NoScript}
use Rattle.kdb_tool.specs.declared.tasks.NoScript.TheVariants.{OptionsRefused, TooLong, BadLine}
use Rattle.kdb_tool.specs.declared.tasks.Task.{Task}
use Rattle.kdb_tool.specs.declared.tasks.Task.TheVariants.{Play, Refuse}
use Rattle.tool_commands.specs.Report.{Report, warned}
use Rattle.tool_words.specs.Lines.{options_refused}

-- what some bytes ask for: to play the script that they read as, or to refuse them
abbrev pub IsTaskOf : List ℕ → Task → Type 0
IsTaskOf bytes (Play script) = IsShortScript bytes script
IsTaskOf bytes (Refuse OptionsRefused) = ⊥
IsTaskOf bytes (Refuse TooLong) = script.is_too_long bytes ≡ true
IsTaskOf bytes (Refuse (BadLine line)) = (script.is_too_long bytes ≡ false) × script.IsBadAt bytes line

-- what the words and the input ask for: words that are refused decide alone
pub data IsTask (words : List (List ℕ)) (input : List ℕ) (task : Task) : Type 0 where
  OfWords : takes_words words ≡ false → task ≡ Refuse OptionsRefused → IsTask words input task
  OfInput : takes_words words ≡ true → IsTaskOf (taken input) task → IsTask words input task

-- a script that is to be played can be
abbrev pub CanBePlayed : Task → Type 0
CanBePlayed (Play script) = IsPlayable script
CanBePlayed (Refuse why) = Unit {0}

-- what is told where there is none
abbrev pub warning_of : NoScript → Report
warning_of OptionsRefused = warned 1 options_refused
warning_of TooLong = warned 5 script_too_long
warning_of (BadLine line) = warned 5 (bad_line line)
