-- The words behind `batch`, and the script that the input gives. (This project's own.)
use Rattle.std.specs.Prelude.{◌≡◌, ℕ, ◌+◌, Bool, true, false, not, List, [], ◌∷◌, take, drop, Option, Some, codes}
use Rattle.general_words.specs.Texts.{is_text}
use Rattle.batch_script.specs.Scripts as script
use Rattle.batch_script.specs.declared.steps.Script.{Script}
use Rattle.kdb_outside.specs.Faults.{HasRisen}
use Rattle.kdb_outside.specs.declared.sources.Source.{Ghosts}
use Rattle.tool_words.specs.CommandLines.{no_arguments, refuses}
use Rattle.tool_single.specs.Input.{TakesInput}

-- a command line is a batch's by its first word
abbrev pub is_batch : List (List ℕ) → Bool
is_batch [] = false
is_batch (word ∷ words) = is_text word (codes "batch")

-- and there are no further words but such as every command takes
abbrev pub takes_words : List (List ℕ) → Bool
takes_words words = not (refuses no_arguments (drop 1 words))

-- the most bytes that are taken of the input: one more than a script may have
abbrev pub most_taken : ℕ
most_taken = script.longest_script + 1

-- what is taken of some input
abbrev pub taken : List ℕ → List ℕ
taken input = take most_taken input

-- a batch is given this input: the bytes that its source tells. Where its words are refused it takes none, and this is
-- any
abbrev pub IsGiven : Bool → Option (List ℕ) → List ℕ → Type 0
IsGiven false left input = Unit {0}
IsGiven true left input = left ≡ Some input

-- a count of faults of the input rose while it was taken
abbrev pub FailsToRead : Bool → ℕ → ℕ → Type 0
FailsToRead false before now = ⊥
FailsToRead true before now = HasRisen before now

-- how the input is left: as it was where the words are refused
abbrev pub LeavesInput : {S : Type 0} → Ghosts S → Bool → Type 0 → S → S → Type 0
LeavesInput g false answered before now = now ≡ before
LeavesInput g true answered before now = TakesInput g most_taken answered before now

-- bytes read as a script: they aren't too many, and each of their lines has a meaning
pub record IsShortScript (bytes : List ℕ) (read : Script) : Type 0 where
  pub short : script.is_too_long bytes ≡ false
  pub reads : script.Reads bytes read

-- so does what is taken of some input
abbrev pub IsScript : List ℕ → Script → Type 0
IsScript input read = IsShortScript (taken input) read

-- the sessions are asked to play a script: the words are taken, and the input reads as it
pub record AsksFor (words : List (List ℕ)) (input : List ℕ) (script : Script) : Type 0 where
  pub takes : takes_words words ≡ true
  pub is_script : IsScript input script

-- the store is asked for something
abbrev pub AsksStore : List (List ℕ) → List ℕ → Type 0
AsksStore words input = (script : Script) × AsksFor words input script

-- and it came to be, behind an input that was taken whole: it is with each input that was given
pub record HasAsked {S : Type 0} (g : Ghosts S) (words : List (List ℕ)) (before now : S) : Type 0 where
  pub asks : (given : List ℕ) → IsGiven (takes_words words) (g.left before) given → AsksStore words given
  pub whole : LeavesInput g (takes_words words) (Unit {0}) before now
