-- The keys that lines give handles have names in `proc`.
use Rattle.std.specs.Prelude.{◌≡◌, ℕ, Bool, true, false, if◌then◌else◌, List, [], ◌∷◌, filter_map, Option, Some, None, IfSome, option_and_then}
use Rattle.std.specs.List.{AllByRecursion}
use Rattle.std.specs.Option.{option_map}
use Rattle.std.proofs.Common.{drop, refl, sym, subst, inl, inr}
use Rattle.general_words.proofs.Lists.{all_append}
use Rattle.general_words.specs.Texts.{is_text}
use Rattle.key_merge.specs.Strategies.{strategy_of}
use Rattle.key_merge.specs.declared.strategies.Strategy.{Strategy}
use Rattle.model_lines.specs.Lines.{without_return}
use Rattle.model_lines.specs.Reading.{Leads}
use Rattle.model_names.specs.Name.{Name}
use Rattle.model_names.specs.NameOf.{name_of}
use Rattle.model_names.specs.declared.namespaces.Namespace.TheVariants.{Proc as ProcNamespace}
use Rattle.batch_script.specs.Counts.{commit_number_of, tries_of, watch_room_of}
use Rattle.batch_script.specs.MetaTests.{is_meta}
use Rattle.batch_script.specs.Phases.{proc_of}
use Rattle.batch_script.specs.Rows.{Row, is_cascading, on_merge, on_meta, on_name, on_none, on_one, on_plain_name, on_proc, on_three, on_two, on_undo, on_watch, plain_name_of, proc_name_of, rows, said, said_by, session_of}
use Rattle.batch_script.specs.Scripts.{Adds, Means}
use Rattle.batch_script.specs.declared.items.Item.{Item}
use Rattle.batch_script.specs.declared.items.Item.TheVariants.{Proc, Session, Phase, Does}
use Rattle.batch_script.specs.declared.steps.ProcLine.{ProcLine}
use Rattle.batch_script.specs.declared.steps.Step.{Step}
use Rattle.batch_script.specs.declared.steps.Step.TheVariants.{Get, Put, MetaStep, Del, Cut, Look, Set, Merge, Watch, Poll, Undo}

abbrev IsInProc : ProcLine → Type 0
IsInProc line = line.key.namespace ≡ ProcNamespace

-- an item that gives a handle a key gives it one in `proc`
abbrev GivesInProc : Item → Type 0
GivesInProc item = IfSome (proc_of item) IsInProc

-- what words say, if they say something, does so
abbrev SaysInProc : Option Item → Type 0
SaysInProc found = IfSome found GivesInProc

-- ---- the words behind a first word

none-in : (found : Option Item) (words : List (List ℕ)) → SaysInProc found → SaysInProc (on_none found words)
none-in found [] says = says
none-in found (word ∷ words) says = tt

one-in : (by : List ℕ → Option Item) (words : List (List ℕ)) → ((one : List ℕ) → SaysInProc (by one))
    → SaysInProc (on_one by words)
one-in by [] says = tt
one-in by (one ∷ []) says = says one
one-in by (one ∷ two ∷ words) says = tt

two-in : (by : List ℕ → List ℕ → Option Item) (words : List (List ℕ)) → ((one two : List ℕ) → SaysInProc (by one two))
    → SaysInProc (on_two by words)
two-in by [] says = tt
two-in by (one ∷ []) says = tt
two-in by (one ∷ two ∷ []) says = says one two
two-in by (one ∷ two ∷ three ∷ words) says = tt

three-in : (by : List ℕ → List ℕ → List ℕ → Option Item) (words : List (List ℕ))
    → ((one two three : List ℕ) → SaysInProc (by one two three)) → SaysInProc (on_three by words)
three-in by [] says = tt
three-in by (one ∷ []) says = tt
three-in by (one ∷ two ∷ []) says = tt
three-in by (one ∷ two ∷ three ∷ []) says = says one two three
three-in by (one ∷ two ∷ three ∷ four ∷ words) says = tt

-- what stands for a value says so for each value
map-in : {A : Type 0} (item : A → Item) (found : Option A) → ((it : A) → GivesInProc (item it))
    → SaysInProc (option_map item found)
map-in item None says = tt
map-in item (Some it) says = says it

-- what one of two things says
either : (b : Bool) (one other : Option Item) → SaysInProc one → SaysInProc other
    → SaysInProc (if b then one else other)
either true one other says rest = says
either false one other says rest = rest

meta-in : (word meta value : List ℕ) → SaysInProc (on_meta word meta value)
meta-in word meta value =
    either (is_meta meta) (on_name (λ name. MetaStep name meta value) word) None (map-in (λ name. Does (MetaStep name meta value)) (name_of word) (λ name. tt)) tt

merge-in : (word strategy tries : List ℕ) → SaysInProc (on_merge word strategy tries)
merge-in word strategy tries = by (name_of word) (strategy_of strategy) (tries_of tries)
  where
    by : (parent : Option Name) (strategy : Option Strategy) (tries : Option ℕ)
        → SaysInProc (option_and_then (λ parent. option_and_then (λ by. option_map (λ most. Does (Merge parent by most)) tries) strategy) parent)
    by None strategy tries = tt
    by (Some parent) None tries = tt
    by (Some parent) (Some strategy) None = tt
    by (Some parent) (Some strategy) (Some tries) = tt

watch-in : (word room : List ℕ) → SaysInProc (on_watch word room)
watch-in word room = by (name_of word) (watch_room_of room)
  where
    by : (parent : Option Name) (room : Option ℕ)
        → SaysInProc (option_and_then (λ parent. option_map (λ most. Does (Watch parent most)) room) parent)
    by None room = tt
    by (Some parent) None = tt
    by (Some parent) (Some room) = tt

-- a name that is one in `proc`
proc-name : (found : Option Name)
    → IfSome (option_and_then (λ (name : Name). if is_cascading name then Some (record { namespace = ProcNamespace; parts = name.parts }) else None) found) (λ (name : Name). name.namespace ≡ ProcNamespace)
proc-name None = tt
proc-name (Some name) = by (is_cascading name)
  where
    by : (b : Bool)
        → IfSome (if b then Some (record { namespace = ProcNamespace; parts = name.parts }) else None) (λ (it : Name). it.namespace ≡ ProcNamespace)
    by true = refl
    by false = tt

proc-in : (number path value : List ℕ) → SaysInProc (on_proc number path value)
proc-in number path value = by (session_of number) (proc_name_of path) (proc-name (name_of path))
  where
    by : (session : Option ℕ) (key : Option Name) → IfSome key (λ (name : Name). name.namespace ≡ ProcNamespace)
        → SaysInProc (option_and_then (λ session. option_map (λ key. Proc (record { session = session; key = key; value = value })) key) session)
    by None key is = tt
    by (Some session) None is = tt
    by (Some session) (Some key) is = is

-- ---- a line

-- a row whose words name one key
name-row : (step : Name → Step) (words : List (List ℕ)) → SaysInProc (on_one (on_name step) words)
name-row step words = one-in (on_name step) words (λ one. map-in (λ name. Does (step name)) (name_of one) (λ name. tt))

session-row : (words : List (List ℕ)) → SaysInProc (on_one (λ number. option_map Session (session_of number)) words)
session-row words =
    one-in (λ number. option_map Session (session_of number)) words (λ one. map-in Session (session_of one) (λ number. tt))

put-row : (words : List (List ℕ)) → SaysInProc (on_two (λ word value. on_name (λ name. Put name value) word) words)
put-row words =
    two-in (λ word value. on_name (λ name. Put name value) word) words (λ one two. map-in (λ name. Does (Put name two)) (name_of one) (λ name. tt))

undo-row : (words : List (List ℕ)) → SaysInProc (on_one on_undo words)
undo-row words =
    one-in on_undo words (λ one. map-in (λ number. Does (Undo number)) (commit_number_of one) (λ number. tt))

cut-row : (words : List (List ℕ)) → SaysInProc (on_one (on_plain_name Cut) words)
cut-row words =
    one-in (on_plain_name Cut) words (λ one. map-in (λ name. Does (Cut name)) (plain_name_of one) (λ name. tt))

abbrev IsRowInProc : Row → Type 0
IsRowInProc row = (words : List (List ℕ)) → SaysInProc (row.says words)

rows-in : AllByRecursion IsRowInProc rows
rows-in =
    let waits : AllByRecursion IsRowInProc (drop 11 rows) = ((λ words. two-in on_watch words watch-in), ((λ words. none-in (Some (Does Poll)) words tt), (undo-row, tt))) in
    let keys : AllByRecursion IsRowInProc (drop 7 rows) = (cut-row, (name-row Look, (name-row Set, ((λ words. three-in on_merge words merge-in), waits)))) in
    let steps : AllByRecursion IsRowInProc (drop 3 rows) = (name-row Get, (put-row, (λ words. three-in on_meta words meta-in, (name-row Del, keys)))) in
    (λ words. three-in on_proc words proc-in, (session-row, (λ words. none-in (Some Phase) words tt, steps)))

by-rows : (all : List Row) (word : List ℕ) (words : List (List ℕ)) → AllByRecursion IsRowInProc all
    → SaysInProc (said_by all word words)
by-rows [] word words each = tt
by-rows (row ∷ others) word words each =
    either (is_text word row.word) (row.says words) (said_by others word words) (each.0 words) (by-rows others word words each.1)

said-in : (words : List (List ℕ)) → SaysInProc (said words)
said-in [] = tt
said-in (word ∷ words) = by-rows rows word words rows-in

-- ---- all lines

adds-in : (before after : List Item) (line : List ℕ) → AllByRecursion GivesInProc before → Adds before line after
    → AllByRecursion GivesInProc after
adds-in before after line all adds = by adds.means
  where
    by : Means before (without_return line) after → AllByRecursion GivesInProc after
    by (inl nothing) = subst (AllByRecursion GivesInProc) (sym nothing.1) all
    by (inr says) =
        let one : GivesInProc says.0 = subst SaysInProc says.1.is_said (said-in says.1.words) in
        subst (AllByRecursion GivesInProc) (sym says.2) (all_append GivesInProc before (says.0 ∷ []) all (one, tt))

pub leads-in : (lines : List (List ℕ)) (before after : List Item) → AllByRecursion GivesInProc before
    → Leads Adds before lines after → AllByRecursion GivesInProc after
leads-in [] before after all leads = subst (AllByRecursion GivesInProc) leads all
leads-in (line ∷ lines) before after all leads =
    leads-in lines leads.0 after (adds-in before leads.0 line all leads.1) leads.2

pub lines-in : (items : List Item) → AllByRecursion GivesInProc items
    → AllByRecursion IsInProc (filter_map proc_of items)
lines-in [] all = tt
lines-in (Proc line ∷ items) all = (all.0, lines-in items all.1)
lines-in (Session session ∷ items) all = lines-in items all.1
lines-in (Phase ∷ items) all = lines-in items all.1
lines-in (Does step ∷ items) all = lines-in items all.1
