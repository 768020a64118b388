-- Which bytes read as which script, and which are bad at which line. (This project's own.)
use Rattle.std.specs.Prelude.{◌≡◌, ◌⊎◌, ℕ, ◌+◌, ◌==◌, Bool, true, false, not, ◌||◌, nat_lt, if◌then◌else◌, count_by, List, [], ◌∷◌, ◌++◌, length, Some}
use Rattle.std.specs.List.{list_all}
use Rattle.std.specs.Str.{IsUtf8}
use Rattle.model_lines.specs.Lines.{lines, without_return}
use Rattle.model_lines.specs.Reading.{Leads, StopsAt}
use Rattle.batch_script.specs.declared.faults.ScriptFault.{ScriptFault}
use Rattle.batch_script.specs.declared.faults.ScriptFault.TheVariants.{BadLine, Memory}
use Rattle.batch_script.specs.declared.items.Item.{Item}
use Rattle.batch_script.specs.declared.steps.Script.{Script}
use Rattle.batch_script.specs.Words.{is_blank, HasWords, IsComment}
use Rattle.batch_script.specs.Rows.{said}
use Rattle.batch_script.specs.Places.{may_follow}
use Rattle.batch_script.specs.Phases.{script_of}

-- a line without words, and a comment, means nothing
abbrev pub MeansNothing : List ℕ → Type 0
MeansNothing line = (list_all is_blank line ≡ true) ⊎ IsComment line

-- the words of a line say something that may stand behind what the lines before it say
pub record Says (before : List Item) (line : List ℕ) (item : Item) : Type 0 where
  pub words : List (List ℕ)
  pub has : HasWords line words
  pub is_said : said words ≡ Some item
  pub follows : may_follow before item ≡ true

-- what all lines say behind one more: it says one thing more, or nothing
abbrev pub Means : List Item → List ℕ → List Item → Type 0
Means before line after =
    (MeansNothing line × (after ≡ before)) ⊎ ((item : Item) × Says before line item × (after ≡ before ++ item ∷ []))

-- a line is UTF-8; one carriage return at its end is dropped
pub record Adds (before : List Item) (line : List ℕ) (after : List Item) : Type 0 where
  pub utf8 : IsUtf8 line
  pub means : Means before (without_return line) after

-- bytes read as the script of what their lines say
pub record Reads (bytes : List ℕ) (script : Script) : Type 0 where
  pub items : List Item
  pub leads : Leads Adds [] (lines bytes) items
  pub script_is : script ≡ script_of items

-- or they are bad at the first line that has no meaning behind those before it, which counts from 1
abbrev pub IsBadAt : List ℕ → ℕ → Type 0
IsBadAt bytes line = StopsAt Adds [] (lines bytes) line

-- why bytes aren't read
abbrev pub Refuses : List ℕ → ScriptFault → Type 0
Refuses bytes (BadLine line) = IsBadAt bytes line
Refuses bytes Memory = Unit {0}

-- the most bytes and the most lines of a script
abbrev pub longest_script : ℕ
longest_script = 4194304

abbrev pub most_lines : ℕ
most_lines = 100000

abbrev pub is_too_long : List ℕ → Bool
is_too_long bytes = nat_lt longest_script (length bytes) || nat_lt most_lines (length (lines bytes))

-- something stands behind the last line feed
abbrev pub has_rest : List ℕ → Bool
has_rest [] = false
has_rest (b ∷ []) = not (b == 10)
has_rest (b ∷ c ∷ bytes) = has_rest (c ∷ bytes)

-- the number of line feeds, and one more if something follows the last
abbrev pub feeds_and_rest : List ℕ → ℕ
feeds_and_rest bytes = count_by (λ b. b == 10) bytes + (if has_rest bytes then 1 else 0)
