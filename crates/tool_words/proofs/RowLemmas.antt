-- What the rows of the commands ask for: the file of a key where keys of its namespace are in files.
use Rattle.std.specs.Prelude.{◌≡◌, ℕ, Bool, true, false, List, [], ◌∷◌, Option, Some, None, codes}
use Rattle.std.proofs.Common.{refl, cond, subst}
use Rattle.std.specs.List.{AllByRecursion}
use Rattle.general_words.specs.Texts.{is_text}
use Rattle.kdb_outside.specs.Kind.{kind_of}
use Rattle.kdb_outside.specs.declared.kinds.Kind.{Kind}
use Rattle.kdb_outside.specs.declared.kinds.Kind.TheVariants.{Dump}
use Rattle.model_names.specs.declared.namespaces.Namespace.{Namespace}
use Rattle.model_names.specs.declared.namespaces.Namespace.TheVariants.{Cascading, Spec, Proc, Dir, User, System, Default}
use Rattle.model_names.specs.Name.{Name}
use Rattle.model_names.specs.NameOf.{name_of}
use Rattle.model_names.specs.Namespaces.{has_files}
use Rattle.model_names.specs.Refuses.{Refusal, refusal_of}
use Rattle.tool_words.specs.declared.extents.Extent.{Extent}
use Rattle.tool_words.specs.declared.flows.Flow.{Flow}
use Rattle.tool_words.specs.declared.flows.Flow.TheVariants.{Out, In}
use Rattle.tool_words.specs.declared.uses.Use.{Use}
use Rattle.tool_words.specs.declared.uses.Use.TheVariants.{Looks, Writes}
use Rattle.tool_words.specs.declared.ways.Way.{Way}
use Rattle.tool_words.specs.declared.ways.Way.TheVariants.{Copies, Moves}
use Rattle.tool_words.specs.Request.{Action, Get, Set, Remove, Names, GetMeta, SetMeta, MetaNames, Bring, MountFile, Unmount, Merge, Question, Mounts, FileOf, ViolationsOf, On, NamesFiles, Request, Refuses, Bars, Asks, Imports, read_by, extent_in, on_none, on_one, on_two, on_three, on_two_or_three_by_key, on_one_extended, on_two_extended, on_four_by_strategy, on_strategy, on_name, on_name_for, on_meta, on_kind, is_meta, unnamed, asks, asks_to_bring, asks_to_merge, asks_to_mount, asks_to_pass, passing}
use Rattle.clap.specs.Words.{App, Row as Values}
use Rattle.tool_words.specs.CommandLines.{no_arguments, one_argument, two_arguments, three_arguments, two_or_three_by_key, one_extended, two_extended, four_by_strategy, given_value, is_set, refuses, value, values}
use Rattle.tool_words.specs.Lines.{argument, no_name, options_refused}
use Rattle.tool_words.specs.Rows.{Row, asked_by, request, rows}
use Rattle.key_merge.specs.declared.strategies.Strategy.{Strategy}
use Rattle.key_merge.specs.Strategies.{strategy_of}
use Rattle.tool_words.specs.Uses.{bars}

-- what is asked for names files
abbrev NamesAny : Request → Type 0
NamesAny (Refuses status text) = Unit {0}
NamesAny (Bars name) = Unit {0}
NamesAny (Asks question) = NamesFiles question
NamesAny (Imports name kind) = Unit {0}

-- ---- the words behind a command

read_by-names : (app : App) (take : List Values → Request) → ((rows : List Values) → NamesAny (take rows))
    → (words : List (List ℕ)) → NamesAny (read_by app take words)
read_by-names app take each words = by (refuses app words)
  where
    by : (b : Bool) → NamesAny (cond b (Refuses 1 options_refused) (take (values app words)))
    by true = tt
    by false = each (values app words)

none-names : (asked : Request) → NamesAny asked → (words : List (List ℕ)) → NamesAny (on_none asked words)
none-names asked names = read_by-names no_arguments (λ rows. asked) (λ rows. names)

one-names : (take : List ℕ → Request) → ((a : List ℕ) → NamesAny (take a)) → (words : List (List ℕ))
    → NamesAny (on_one take words)
one-names take each =
    read_by-names one_argument (λ rows. take (value (codes "1") rows)) (λ rows. each (value (codes "1") rows))

two-names : (take : List ℕ → List ℕ → Request) → ((a b : List ℕ) → NamesAny (take a b)) → (words : List (List ℕ))
    → NamesAny (on_two take words)
two-names take each =
    read_by-names two_arguments (λ rows. take (value (codes "1") rows) (value (codes "2") rows)) (λ rows. each (value (codes "1") rows) (value (codes "2") rows))

three-names : (take : List ℕ → List ℕ → List ℕ → Request) → ((a b c : List ℕ) → NamesAny (take a b c))
    → (words : List (List ℕ)) → NamesAny (on_three take words)
three-names take each =
    read_by-names three_arguments (λ rows. take (value (codes "1") rows) (value (codes "2") rows) (value (codes "3") rows)) (λ rows. each (value (codes "1") rows) (value (codes "2") rows) (value (codes "3") rows))

two_or_three-names : (take : Bool → List ℕ → List ℕ → Option (List ℕ) → Request)
    → ((by_key : Bool) (a b : List ℕ) (c : Option (List ℕ)) → NamesAny (take by_key a b c)) → (words : List (List ℕ))
    → NamesAny (on_two_or_three_by_key take words)
two_or_three-names take each =
    read_by-names two_or_three_by_key (λ rows. take (is_set (codes "k") rows) (value (codes "1") rows) (value (codes "2") rows) (given_value (codes "3") rows))
    (λ rows. each (is_set (codes "k") rows) (value (codes "1") rows) (value (codes "2") rows) (given_value (codes "3") rows))

one_extended-names : (take : Extent → List ℕ → Request) → ((extent : Extent) (a : List ℕ) → NamesAny (take extent a))
    → (words : List (List ℕ)) → NamesAny (on_one_extended take words)
one_extended-names take each =
    read_by-names one_extended (λ rows. take (extent_in rows) (value (codes "1") rows)) (λ rows. each (extent_in rows) (value (codes "1") rows))

two_extended-names : (take : Extent → List ℕ → List ℕ → Request)
    → ((extent : Extent) (a b : List ℕ) → NamesAny (take extent a b)) → (words : List (List ℕ))
    → NamesAny (on_two_extended take words)
two_extended-names take each =
    read_by-names two_extended (λ rows. take (extent_in rows) (value (codes "1") rows) (value (codes "2") rows)) (λ rows. each (extent_in rows) (value (codes "1") rows) (value (codes "2") rows))

four_by_strategy-names : (take : List ℕ → List ℕ → List ℕ → List ℕ → List ℕ → Request)
    → ((a b c d word : List ℕ) → NamesAny (take a b c d word)) → (words : List (List ℕ))
    → NamesAny (on_four_by_strategy take words)
four_by_strategy-names take each =
    read_by-names four_by_strategy (λ rows. take (value (codes "1") rows) (value (codes "2") rows) (value (codes "3") rows) (value (codes "4") rows) (value (codes "s") rows))
    (λ rows. each (value (codes "1") rows) (value (codes "2") rows) (value (codes "3") rows) (value (codes "4") rows) (value (codes "s") rows))

-- ---- a word

unnamed-names : (word : List ℕ) → NamesAny (unnamed word)
unnamed-names word = by (refusal_of word)
  where
    by : (o : Option Refusal)
        → NamesAny (elim o [ Some refusal ↦ Refuses 2 (no_name refusal) | None ↦ Refuses 2 (argument word) ])
    by None = tt
    by (Some refusal) = tt

name-names : (word : List ℕ) (asked : Name → Request) → ((name : Name) → NamesAny (asked name))
    → NamesAny (on_name word asked)
name-names word asked each = by (name_of word)
  where
    by : (o : Option Name) → NamesAny (elim o [ Some name ↦ asked name | None ↦ unnamed word ])
    by None = unnamed-names word
    by (Some name) = each name

name_for-names : (purpose : Use) (word : List ℕ) (asked : Name → Request)
    → ((name : Name) → bars purpose name.namespace ≡ false → NamesAny (asked name))
    → NamesAny (on_name_for purpose word asked)
name_for-names purpose word asked each =
    name-names word (λ name. cond (bars purpose name.namespace) (Bars name) (asked name)) (λ name. by name (bars purpose name.namespace) refl)
  where
    by : (name : Name) (b : Bool) → bars purpose name.namespace ≡ b → NamesAny (cond b (Bars name) (asked name))
    by name true is = tt
    by name false is = each name is

meta-names : (text : List ℕ) (asked : Request) → NamesAny asked → NamesAny (on_meta text asked)
meta-names text asked names = by (is_meta text)
  where
    by : (b : Bool) → NamesAny (cond b asked (Refuses 2 (argument text)))
    by true = names
    by false = tt

kind-names : (plugin : Option (List ℕ)) (asked : Kind → Request) → ((kind : Kind) → NamesAny (asked kind))
    → NamesAny (on_kind plugin asked)
kind-names None asked each = each Dump
kind-names (Some word) asked each = by (kind_of word)
  where
    by : (o : Option Kind) → NamesAny (elim o [ None ↦ Refuses 2 (argument word) | Some kind ↦ asked kind ])
    by None = tt
    by (Some kind) = each kind

strategy-names : (word : List ℕ) (asked : Strategy → Request) → ((strategy : Strategy) → NamesAny (asked strategy))
    → NamesAny (on_strategy word asked)
strategy-names word asked each = by (strategy_of word)
  where
    by : (o : Option Strategy) → NamesAny (elim o [ None ↦ Refuses 2 (argument word) | Some strategy ↦ asked strategy ])
    by None = tt
    by (Some strategy) = each strategy

-- a name that can be written to is in files
writable-in_files : (namespace : Namespace) → bars Writes namespace ≡ false → has_files namespace ≡ true
writable-in_files Cascading is = absurd cc
writable-in_files Spec is = refl
writable-in_files Proc is = absurd cc
writable-in_files Dir is = refl
writable-in_files User is = refl
writable-in_files System is = refl
writable-in_files Default is = absurd cc

-- ---- the rows

on_key : (purpose : Use) (action : Action) (word : List ℕ) → NamesAny (asks purpose action word)
on_key purpose action word = name_for-names purpose word (λ name. Asks (On name action)) (λ name is. tt)

key_alone : (purpose : Use) (action : Action) (words : List (List ℕ)) → NamesAny (on_one (asks purpose action) words)
key_alone purpose action = one-names (asks purpose action) (on_key purpose action)

setting : (words : List (List ℕ)) → NamesAny (on_two (λ word value. asks Writes (Set value) word) words)
setting = two-names (λ word value. asks Writes (Set value) word) (λ word value. on_key Writes (Set value) word)

removing : (words : List (List ℕ)) → NamesAny (on_one_extended (λ extent. asks Writes (Remove extent)) words)
removing = one_extended-names (λ extent. asks Writes (Remove extent)) (λ extent. on_key Writes (Remove extent))

abbrev meta_of : List ℕ → List ℕ → Request
meta_of word meta = on_name_for Looks word (λ name. on_meta meta (Asks (On name (GetMeta meta))))

meta_getting : (words : List (List ℕ)) → NamesAny (on_two meta_of words)
meta_getting =
    two-names meta_of (λ word meta. name_for-names Looks word (λ name. on_meta meta (Asks (On name (GetMeta meta)))) (λ name is. meta-names meta (Asks (On name (GetMeta meta))) tt))

abbrev meta_with : List ℕ → List ℕ → List ℕ → Request
meta_with word meta text = on_name_for Writes word (λ name. on_meta meta (Asks (On name (SetMeta meta text))))

meta_setting : (words : List (List ℕ)) → NamesAny (on_three meta_with words)
meta_setting =
    three-names meta_with (λ word meta text. name_for-names Writes word (λ name. on_meta meta (Asks (On name (SetMeta meta text)))) (λ name is. meta-names meta (Asks (On name (SetMeta meta text))) tt))

bringing : (way : Way) (words : List (List ℕ)) → NamesAny (on_two_extended (asks_to_bring way) words)
bringing way = two_extended-names (asks_to_bring way) (λ extent from to.
    name_for-names Writes from (λ name. on_name_for Writes to (λ other. Asks (On name (Bring way extent other)))) (λ name is. name_for-names Writes to (λ other. Asks (On name (Bring way extent other))) (λ other free. tt)))

merging-names : (words : List (List ℕ)) → NamesAny (on_four_by_strategy asks_to_merge words)
merging-names = four_by_strategy-names asks_to_merge (λ our their base into word.
    name_for-names Writes our (λ o. on_name_for Writes their (λ t. on_name_for Writes base (λ b. on_name_for Writes into (λ i. on_strategy word (λ strategy. Asks (On i (Merge strategy o t b))))))) (λ o free.
    name_for-names Writes their (λ t. on_name_for Writes base (λ b. on_name_for Writes into (λ i. on_strategy word (λ strategy. Asks (On i (Merge strategy o t b)))))) (λ t free.
    name_for-names Writes base (λ b. on_name_for Writes into (λ i. on_strategy word (λ strategy. Asks (On i (Merge strategy o t b))))) (λ b free.
    name_for-names Writes into (λ i. on_strategy word (λ strategy. Asks (On i (Merge strategy o t b)))) (λ i free.
    strategy-names word (λ strategy. Asks (On i (Merge strategy o t b))) (λ strategy. tt))))))

mounting : (words : List (List ℕ)) → NamesAny (on_two_or_three_by_key asks_to_mount words)
mounting = two_or_three-names asks_to_mount (λ by_key file word plugin.
    name_for-names Writes word (λ name. on_kind plugin (λ kind. Asks (On name (MountFile file kind by_key)))) (λ name is. kind-names plugin (λ kind. Asks (On name (MountFile file kind by_key))) (λ kind. tt)))

mounts : (words : List (List ℕ)) → NamesAny (on_none (Asks Mounts) words)
mounts = none-names (Asks Mounts) tt

abbrev file_asked : List ℕ → Request
file_asked word = on_name_for Writes word (λ name. Asks (FileOf name))

file : (words : List (List ℕ)) → NamesAny (on_one file_asked words)
file =
    one-names file_asked (λ word. name_for-names Writes word (λ name. Asks (FileOf name)) (λ name is. writable-in_files name.namespace is))

abbrev violations_asked : List ℕ → Request
violations_asked word = on_name word (λ name. Asks (ViolationsOf name))

validating : (words : List (List ℕ)) → NamesAny (on_one violations_asked words)
validating = one-names violations_asked (λ word. name-names word (λ name. Asks (ViolationsOf name)) (λ name. tt))

passed-names : (flow : Flow) (name : Name) (kind : Kind) → NamesAny (passing flow name kind)
passed-names Out name kind = tt
passed-names In name kind = tt

passing-names : (flow : Flow) (words : List (List ℕ)) → NamesAny (on_two (asks_to_pass flow) words)
passing-names flow = two-names (asks_to_pass flow) (λ word format.
    name_for-names Writes word (λ name. on_kind (Some format) (λ kind. passing flow name kind)) (λ name is. kind-names (Some format) (λ kind. passing flow name kind) (λ kind. passed-names flow name kind)))

-- a line for each row, in their order
rows-name : AllByRecursion (λ (row : Row). (words : List (List ℕ)) → NamesAny (row.asks_for words)) rows
rows-name =
    (key_alone Looks Get, (setting, (removing, (key_alone Looks Names, (meta_getting, (meta_setting, (key_alone Looks MetaNames, (bringing Copies, (bringing Moves, (mounting, (key_alone Writes Unmount, (mounts, (file, (passing-names Out, (passing-names In, (validating, (merging-names, tt)))))))))))))))))

asked_by-names : (some : List Row)
    → AllByRecursion (λ (row : Row). (words : List (List ℕ)) → NamesAny (row.asks_for words)) some
    → (word : List ℕ) (words : List (List ℕ)) → NamesAny (asked_by some word words)
asked_by-names [] each word words = tt
asked_by-names (row ∷ others) each word words = by (asked_by-names others each.1 word words) (is_text word row.word)
  where
    by : NamesAny (asked_by others word words) → (b : Bool)
        → NamesAny (cond b (row.asks_for words) (asked_by others word words))
    by rest true = each.0 words
    by rest false = rest

names : (words : List (List ℕ)) → NamesAny (request words)
names [] = tt
names (word ∷ words) = asked_by-names rows rows-name word words

pub request-names_files : (words : List (List ℕ)) (question : Question) → request words ≡ Asks question
    → NamesFiles question
request-names_files words question is = subst NamesAny is (names words)
