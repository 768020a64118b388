-- What a command line asks for, or how its words are refused. (This project's own.)
use Rattle.std.specs.Prelude.{◌≡◌, ℕ, true, nat_le, nat_lt, ◌&&◌, Bool, List, length, if◌then◌else◌, Option, None, Some, codes}
use Rattle.clap.specs.Words.{App, Row}
use Rattle.model_names.specs.Name.{Name}
use Rattle.model_names.specs.NameOf.{name_of}
use Rattle.model_names.specs.Namespaces.{has_files}
use Rattle.model_names.specs.Refuses.{refusal_of}
use Rattle.model_maps.specs.Entry.{longest_meta_name}
use Rattle.model_maps.specs.KeyMap.{KeyMap}
use Rattle.tool_words.specs.declared.extents.Extent.{Extent}
use Rattle.tool_words.specs.declared.extents.Extent.TheVariants.{Alone, WithBelow}
use Rattle.tool_words.specs.declared.flows.Flow.{Flow}
use Rattle.tool_words.specs.declared.flows.Flow.TheVariants.{Out, In}
use Rattle.tool_words.specs.declared.ways.Way.{Way}
use Rattle.tool_words.specs.declared.uses.Use.{Use}
use Rattle.tool_words.specs.declared.uses.Use.TheVariants.{Writes}
use Rattle.kdb_outside.specs.Kind.{kind_of}
use Rattle.kdb_outside.specs.declared.kinds.Kind.{Kind}
use Rattle.kdb_outside.specs.declared.kinds.Kind.TheVariants.{Dump}
use Rattle.tool_words.specs.CommandLines.{no_arguments, one_argument, two_arguments, three_arguments, two_or_three_by_key, one_extended, two_extended, four_by_strategy, given_value, is_set, refuses, value, values}
use Rattle.key_merge.specs.declared.strategies.Strategy.{Strategy}
use Rattle.key_merge.specs.Strategies.{strategy_of}
use Rattle.tool_words.specs.Uses.{bars}
use Rattle.tool_words.specs.Lines.{argument, options_refused, no_name}

-- what is done with a key: it is looked up, gets a value, is taken out, or is listed with all below it; its metadata
-- is looked up, set or listed; it is brought to another name; its name becomes or ceases to be a mountpoint; all keys
-- at or below it are replaced by others, or by what those at or below three names are merged into: ours, theirs, and
-- their base. Any other key of the action is given by its name
pub data Action : Type 0 where
  Get : Action
  Set : List ℕ → Action
  Remove : Extent → Action
  Names : Action
  GetMeta : List ℕ → Action
  SetMeta : List ℕ → List ℕ → Action
  MetaNames : Action
  Bring : Way → Extent → Name → Action
  MountFile : List ℕ → Kind → Bool → Action
  Unmount : Action
  Replace : KeyMap → Action
  Merge : Strategy → Name → Name → Name → Action

-- what is asked of a store: its mounts, the file of a key, the text of the keys at or below a name, the rules that
-- these break, or an action on a key
pub data Question : Type 0 where
  Mounts : Question
  FileOf : Name → Question
  TextOf : Name → Kind → Question
  ViolationsOf : Name → Question
  On : Name → Action → Question

-- where the file of a key is asked for, keys of its namespace are in files
abbrev pub NamesFiles : Question → Type 0
NamesFiles Mounts = Unit {0}
NamesFiles (FileOf name) = has_files name.namespace ≡ true
NamesFiles (TextOf name kind) = Unit {0}
NamesFiles (ViolationsOf name) = Unit {0}
NamesFiles (On name action) = Unit {0}

-- a question, keys that the input holds in a format and that are to replace those at or below a name, a name that can't
-- be used so, or a status with the text of its line
pub data Request : Type 0 where
  Refuses : ℕ → List ℕ → Request
  Bars : Name → Request
  Asks : Question → Request
  Imports : Name → Kind → Request

-- the words behind a command: what is asked for by the values that `clap` finds in them, or they are refused
abbrev pub read_by : App → (List Row → Request) → List (List ℕ) → Request
read_by app take words = if refuses app words then Refuses 1 options_refused else take (values app words)

-- which keys a command is for, by its option `-r`
abbrev pub extent_in : List Row → Extent
extent_in rows = if is_set (codes "r") rows then WithBelow else Alone

-- the words behind a command that takes no argument, one, two, or three
abbrev pub on_none : Request → List (List ℕ) → Request
on_none asked = read_by no_arguments (λ rows. asked)

abbrev pub on_one : (List ℕ → Request) → List (List ℕ) → Request
on_one take = read_by one_argument (λ rows. take (value (codes "1") rows))

abbrev pub on_two : (List ℕ → List ℕ → Request) → List (List ℕ) → Request
on_two take = read_by two_arguments (λ rows. take (value (codes "1") rows) (value (codes "2") rows))

abbrev pub on_three : (List ℕ → List ℕ → List ℕ → Request) → List (List ℕ) → Request
on_three take =
    read_by three_arguments (λ rows. take (value (codes "1") rows) (value (codes "2") rows) (value (codes "3") rows))

-- of one that takes two, a third that may be left out, and `-k`
abbrev pub on_two_or_three_by_key : (Bool → List ℕ → List ℕ → Option (List ℕ) → Request) → List (List ℕ) → Request
on_two_or_three_by_key take =
    read_by two_or_three_by_key (λ rows. take (is_set (codes "k") rows) (value (codes "1") rows) (value (codes "2") rows) (given_value (codes "3") rows))

-- of one that takes one or two, and `-r`
abbrev pub on_one_extended : (Extent → List ℕ → Request) → List (List ℕ) → Request
on_one_extended take = read_by one_extended (λ rows. take (extent_in rows) (value (codes "1") rows))

abbrev pub on_two_extended : (Extent → List ℕ → List ℕ → Request) → List (List ℕ) → Request
on_two_extended take =
    read_by two_extended (λ rows. take (extent_in rows) (value (codes "1") rows) (value (codes "2") rows))

-- of one that takes four, and `-s`
abbrev pub on_four_by_strategy : (List ℕ → List ℕ → List ℕ → List ℕ → List ℕ → Request) → List (List ℕ) → Request
on_four_by_strategy take =
    read_by four_by_strategy (λ rows. take (value (codes "1") rows) (value (codes "2") rows) (value (codes "3") rows) (value (codes "4") rows) (value (codes "s") rows))

-- a word that is to be a name and is none: it is told why. Bytes that are no text have no refusal, and no word is such
abbrev pub unnamed : List ℕ → Request
unnamed word = elim (refusal_of word) [ Some refusal ↦ Refuses 2 (no_name refusal) | None ↦ Refuses 2 (argument word) ]

-- a word that is to be a name, and what is asked for by the name
abbrev pub on_name : List ℕ → (Name → Request) → Request
on_name word asked = elim (name_of word) [ Some name ↦ asked name | None ↦ unnamed word ]

-- a word that is to be a name which can be used so
abbrev pub on_name_for : Use → List ℕ → (Name → Request) → Request
on_name_for by word asked = on_name word (λ name. if bars by name.namespace then Bars name else asked name)

-- a text may be a metadata name: it is neither empty nor too long
abbrev pub is_meta : List ℕ → Bool
is_meta text = nat_lt 0 (length text) && nat_le (length text) longest_meta_name

-- a word that is to be a metadata name, and what is asked for where it is one
abbrev pub on_meta : List ℕ → Request → Request
on_meta word asked = if is_meta word then asked else Refuses 2 (argument word)

-- a word that may be left out and is to be a format's, and what is asked for by the format; without the word it is dump
abbrev pub on_kind : Option (List ℕ) → (Kind → Request) → Request
on_kind None asked = asked Dump
on_kind (Some word) asked = elim (kind_of word) [ None ↦ Refuses 2 (argument word) | Some kind ↦ asked kind ]

-- an action on the key of a word alone
abbrev pub asks : Use → Action → List ℕ → Request
asks by action word = on_name_for by word (λ name. Asks (On name action))

-- the key of a word is brought to the name that another word spells
abbrev pub asks_to_bring : Way → Extent → List ℕ → List ℕ → Request
asks_to_bring way extent from to =
    on_name_for Writes from (λ name. on_name_for Writes to (λ other. Asks (On name (Bring way extent other))))

-- a file is mounted at the name of a word, and its conflicts are counted by key or not
abbrev pub asks_to_mount : Bool → List ℕ → List ℕ → Option (List ℕ) → Request
asks_to_mount by_key file word plugin =
    on_name_for Writes word (λ name. on_kind plugin (λ kind. Asks (On name (MountFile file kind by_key))))

-- the keys at or below a name go out, or others come in
abbrev pub passing : Flow → Name → Kind → Request
passing Out name kind = Asks (TextOf name kind)
passing In name kind = Imports name kind

-- keys at or below the name of a word go out or come in, in the format of another word
abbrev pub asks_to_pass : Flow → List ℕ → List ℕ → Request
asks_to_pass flow word format = on_name_for Writes word (λ name. on_kind (Some format) (λ kind. passing flow name kind))

-- a word that is to be a strategy's, and what is asked for by the strategy
abbrev pub on_strategy : List ℕ → (Strategy → Request) → Request
on_strategy word asked = elim (strategy_of word) [ None ↦ Refuses 2 (argument word) | Some strategy ↦ asked strategy ]

-- the keys at or below three names are merged into those of a fourth; what is wrong with the strategy is told last
abbrev pub asks_to_merge : List ℕ → List ℕ → List ℕ → List ℕ → List ℕ → Request
asks_to_merge our their base into word =
    on_name_for Writes our (λ o. on_name_for Writes their (λ t. on_name_for Writes base (λ b. on_name_for Writes into (λ i. on_strategy word (λ strategy. Asks (On i (Merge strategy o t b)))))))
