-- The answer to a batch whose sessions take no step: its words are refused, or its script, or the store isn't opened.
-- (This project's own.)
use Rattle.std.specs.Prelude.{◌≡◌, ℕ, true, false, List, Err}
use Rattle.all_formats.specs.Meanings as all
use Rattle.batch_script.specs.Scripts as script
use Rattle.batch_script.specs.declared.steps.Script.{Script}
use Rattle.mounted_files.specs.Opening.{Opens}
use Rattle.mounted_files.specs.declared.refusals.OpenRefusal.{OpenRefusal}
use Rattle.tool_words.specs.Lines.{options_refused}
use Rattle.tool_single.specs.Answer.{Answer, refused}
use Rattle.tool_single.specs.Answers.{IsRefusedBy}
use Rattle.kdb_tool.specs.Lines.{bad_line, script_too_long}
use Rattle.kdb_tool.specs.Scripts.{AsksFor, taken, takes_words}

-- what some input is refused with as a script: its length, which is looked at first, or the first line that has no
-- meaning
pub data RefusesScript (input : List ℕ) (answer : Answer) : Type 0 where
  TooLong : script.is_too_long (taken input) ≡ true → answer ≡ refused 5 script_too_long → RefusesScript input answer
  BadLine : script.is_too_long (taken input) ≡ false → (line : ℕ) → script.IsBadAt (taken input) line
      → answer ≡ refused 5 (bad_line line) → RefusesScript input answer

-- the answer where the files open no store
pub record IsUnopened (bytes_of : List ℕ → List ℕ) (answer : Answer) : Type 0 where
  pub refusal : OpenRefusal
  pub opens : Opens all.Reads all.IsBadAt bytes_of (Err refusal)
  pub told : IsRefusedBy refusal answer

-- the answer where no session takes a step, with the words, the input, and the bytes of the files
pub data AnswersUnplayed (words : List (List ℕ)) (input : List ℕ) (bytes_of : List ℕ → List ℕ) (answer : Answer) : Type 0 where
  WordsRefused : takes_words words ≡ false → answer ≡ refused 1 options_refused
      → AnswersUnplayed words input bytes_of answer
  ScriptRefused : takes_words words ≡ true → RefusesScript input answer → AnswersUnplayed words input bytes_of answer
  NotOpened : (script : Script) → AsksFor words input script → IsUnopened bytes_of answer
      → AnswersUnplayed words input bytes_of answer
