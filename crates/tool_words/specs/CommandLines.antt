-- The commands as `clap` sees them, and what it makes of the words behind a command's word: an argument for each place,
-- and perhaps an option. The names that stand for them here are never shown. (This project's own, by the definitions of
-- `clap`.)
use Rattle.std.specs.Prelude.{true, false, Bool, ℕ, List, [], ◌∷◌, codes, unwrap_or, Option, Some}
use Rattle.clap.specs.Words.{App, Kinds, Row, Rule, fault_of, first_of, matches_of, new_app, new_rule, with_rule}
use Rattle.clap.specs.declared.builder.action.ArgAction.TheVariants.{SetTrue}
use Rattle.general_words.specs.Texts.{is_text}

-- a command without arguments. It has no help and no version, and its own word isn't among the words
abbrev pub no_arguments : App
no_arguments =
    let app = new_app (codes "kdb") in record app { top = record (app.top) { no_binary_name = true; disable_help_flag = true } }

-- an argument that may not be left out, and one that may
abbrev pub required : List ℕ → Rule
required id = record (new_rule id) { required = true }

abbrev pub optional : List ℕ → Rule
optional id = new_rule id

-- the option `-r`
abbrev pub recursive : Rule
recursive = record (new_rule (codes "r")) { short = Some 114; action = Some SetTrue }

-- the option `-k`
abbrev pub by_key : Rule
by_key = record (new_rule (codes "k")) { short = Some 107; action = Some SetTrue }

-- the option `-s`, which takes a word and has one where it is left out
abbrev pub strategy : Rule
strategy = record (new_rule (codes "s")) { short = Some 115; defaults = codes "abort" ∷ [] }

abbrev pub one_argument : App
one_argument = with_rule no_arguments (required (codes "1"))

abbrev pub two_arguments : App
two_arguments = with_rule one_argument (required (codes "2"))

abbrev pub three_arguments : App
three_arguments = with_rule two_arguments (required (codes "3"))

-- a third argument may be left out, with the option `-k`
abbrev pub two_or_three_by_key : App
two_or_three_by_key = with_rule (with_rule two_arguments (optional (codes "3"))) by_key

-- with the option `-r`
abbrev pub one_extended : App
one_extended = with_rule one_argument recursive

abbrev pub two_extended : App
two_extended = with_rule two_arguments recursive

-- four arguments, with the option `-s`
abbrev pub four_by_strategy : App
four_by_strategy = with_rule (with_rule three_arguments (required (codes "4"))) strategy

-- there is a fault: `clap` tells the kinds that it may be of
abbrev pub has_fault : Kinds → Bool
has_fault [] = false
has_fault (kind ∷ kinds) = true

-- a command refuses words
unfoldable pub refuses : App → List (List ℕ) → Bool
refuses app words = has_fault (fault_of app words)

-- the values that words give its arguments and options, where it takes them
unfoldable pub values : App → List (List ℕ) → List Row
values app words = matches_of app words

-- the value of an argument or an option that may be left out
abbrev pub given_value : List ℕ → List Row → Option (List ℕ)
given_value id rows = first_of id rows

-- the value of one that may not, or that has a default. Words that leave it out are refused, so the empty text stands
-- for none
abbrev pub value : List ℕ → List Row → List ℕ
value id rows = unwrap_or (given_value id rows) []

-- an option that takes no word is there
abbrev pub is_set : List ℕ → List Row → Bool
is_set id rows = is_text (value id rows) (codes "true")
