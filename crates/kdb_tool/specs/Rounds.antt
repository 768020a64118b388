-- The words behind `gen`: how many rounds each session of the generated script goes through. (This project's own.)
use Rattle.std.specs.Prelude.{ℕ, Bool, false, List, ◌∷◌, [], drop, Option, Some, None, codes, if◌then◌else◌}
use Rattle.general_words.specs.Texts.{is_text}
use Rattle.batch_script.specs.Counts.{count_of}
use Rattle.kdb_gen.specs.Generated.{most_rounds}
use Rattle.tool_words.specs.CommandLines.{one_argument, refuses, value, values}
use Rattle.tool_words.specs.Lines.{argument, options_refused}

-- a command line is one of a generated run by its first word
abbrev pub is_gen : List (List ℕ) → Bool
is_gen [] = false
is_gen (word ∷ words) = is_text word (codes "gen")

-- so many rounds are asked for, or the words are refused by a status and the text of its line
pub data Rounds : Type 0 where
  Plays : ℕ → Rounds
  Refuses : ℕ → List ℕ → Rounds

-- the one word behind is to be their number: from 1 to the most, in decimal, without leading zero
abbrev pub rounds_of : List ℕ → Rounds
rounds_of word = elim (count_of most_rounds word) [ Some rounds ↦ Plays rounds | None ↦ Refuses 2 (argument word) ]

-- the argument of a command that takes one, where it takes the words
abbrev pub only_argument : List (List ℕ) → Option (List ℕ)
only_argument words = if refuses one_argument words then None else Some (value (codes "1") (values one_argument words))

-- a word that is missing, and a further one, are told before a number that is none
abbrev pub rounds_behind : List (List ℕ) → Rounds
rounds_behind words = elim (only_argument words) [ Some word ↦ rounds_of word | None ↦ Refuses 1 options_refused ]

-- what a command line of a generated run asks for
abbrev pub rounds_in : List (List ℕ) → Rounds
rounds_in words = rounds_behind (drop 1 words)
