-- What the words of a line say: a row for each first word. (This project's own.)
use Rattle.std.specs.Prelude.{ℕ, ◌≤◌, nat_eq, Bool, if◌then◌else◌, List, [], ◌∷◌, Option, Some, None, option_and_then, codes}
use Rattle.std.specs.Option.{option_map}
use Rattle.general_words.specs.Texts.{is_text}
use Rattle.key_merge.specs.Strategies.{strategy_of}
use Rattle.model_names.specs.declared.namespaces.Namespace.TheVariants.{Cascading, Proc as ProcNamespace}
use Rattle.model_names.specs.Name.{Name, rank}
use Rattle.model_names.specs.NameOf.{name_of}
use Rattle.batch_script.specs.Counts.{commit_number_of, count_of, tries_of, watch_room_of}
use Rattle.batch_script.specs.MetaTests.{is_meta}
use Rattle.batch_script.specs.declared.items.Item.{Item}
use Rattle.batch_script.specs.declared.items.Item.TheVariants.{Proc, Session, Phase, Does}
use Rattle.batch_script.specs.declared.steps.Step.{Step}
use Rattle.batch_script.specs.declared.steps.Step.TheVariants.{Get, Put, MetaStep, Del, Cut, Look, Set, Merge, Watch, Poll, Undo}

-- the most sessions of a script
abbrev pub most_sessions : ℕ
most_sessions = 32

-- a word that numbers a session
abbrev pub session_of : List ℕ → Option ℕ
session_of word = count_of most_sessions word

abbrev pub is_cascading : Name → Bool
is_cascading name = nat_eq (rank name.namespace) (rank Cascading)

-- a word that spells a cascading name, as the name with its parts in the namespace `proc`
abbrev pub proc_name_of : List ℕ → Option Name
proc_name_of word =
    option_and_then (λ name. if is_cascading name then Some (record { namespace = ProcNamespace; parts = name.parts }) else None) (name_of word)

-- a word that spells a name of one namespace
abbrev pub plain_name_of : List ℕ → Option Name
plain_name_of word = option_and_then (λ name. if is_cascading name then None else Some name) (name_of word)

-- a step on the name that a word spells
abbrev pub on_name : (Name → Step) → List ℕ → Option Item
on_name step word = option_map (λ name. Does (step name)) (name_of word)

abbrev pub on_plain_name : (Name → Step) → List ℕ → Option Item
on_plain_name step word = option_map (λ name. Does (step name)) (plain_name_of word)

-- one that sets metadata
abbrev pub on_meta : List ℕ → List ℕ → List ℕ → Option Item
on_meta word meta value = if is_meta meta then on_name (λ name. MetaStep name meta value) word else None

-- one that sets the working set in some tries
abbrev pub merge_of : Name → List ℕ → List ℕ → Option Item
merge_of parent strategy tries =
    option_and_then (λ by. option_map (λ most. Does (Merge parent by most)) (tries_of tries)) (strategy_of strategy)

abbrev pub on_merge : List ℕ → List ℕ → List ℕ → Option Item
on_merge word strategy tries = option_and_then (λ parent. merge_of parent strategy tries) (name_of word)

-- one that watches what changes at or below a parent
abbrev pub watch_of : Name → List ℕ → Option Item
watch_of parent room = option_map (λ most. Does (Watch parent most)) (watch_room_of room)

abbrev pub on_watch : List ℕ → List ℕ → Option Item
on_watch word room = option_and_then (λ parent. watch_of parent room) (name_of word)

-- one that takes a numbered commit back
abbrev pub on_undo : List ℕ → Option Item
on_undo word = option_map (λ number. Does (Undo number)) (commit_number_of word)

-- the handle of a numbered session is opened with a key
abbrev pub on_proc : List ℕ → List ℕ → List ℕ → Option Item
on_proc number path value =
    option_and_then (λ session. option_map (λ key. Proc (record { session = session; key = key; value = value })) (proc_name_of path)) (session_of number)

-- as many words as a row takes: none, one, two or three
abbrev pub on_none : Option Item → List (List ℕ) → Option Item
on_none said [] = said
on_none said (word ∷ words) = None

abbrev pub on_one : (List ℕ → Option Item) → List (List ℕ) → Option Item
on_one said [] = None
on_one said (one ∷ []) = said one
on_one said (one ∷ two ∷ words) = None

abbrev pub on_two : (List ℕ → List ℕ → Option Item) → List (List ℕ) → Option Item
on_two said [] = None
on_two said (one ∷ []) = None
on_two said (one ∷ two ∷ []) = said one two
on_two said (one ∷ two ∷ three ∷ words) = None

abbrev pub on_three : (List ℕ → List ℕ → List ℕ → Option Item) → List (List ℕ) → Option Item
on_three said [] = None
on_three said (one ∷ []) = None
on_three said (one ∷ two ∷ []) = None
on_three said (one ∷ two ∷ three ∷ []) = said one two three
on_three said (one ∷ two ∷ three ∷ four ∷ words) = None

-- a first word, and what the words behind it say
pub record Row : Type 0 where
  pub word : List ℕ
  pub says : List (List ℕ) → Option Item

abbrev row : List ℕ → (List (List ℕ) → Option Item) → Row
row word says = record { word = word; says = says }

abbrev pub rows : List Row
rows =
    row (codes "proc") (on_three on_proc)
    ∷ row (codes "session") (on_one (λ number. option_map Session (session_of number)))
    ∷ row (codes "phase") (on_none (Some Phase))
    ∷ row (codes "get") (on_one (on_name Get))
    ∷ row (codes "put") (on_two (λ word value. on_name (λ name. Put name value) word))
    ∷ row (codes "meta") (on_three on_meta)
    ∷ row (codes "del") (on_one (on_name Del))
    ∷ row (codes "cut") (on_one (on_plain_name Cut))
    ∷ row (codes "look") (on_one (on_name Look))
    ∷ row (codes "set") (on_one (on_name Set))
    ∷ row (codes "merge") (on_three on_merge)
    ∷ row (codes "watch") (on_two on_watch)
    ∷ row (codes "poll") (on_none (Some (Does Poll)))
    ∷ row (codes "undo") (on_one on_undo)
    ∷ []

-- what the words behind a first word say, if they say something
abbrev pub said_by : List Row → List ℕ → List (List ℕ) → Option Item
said_by [] word words = None
said_by (row ∷ others) word words = if is_text word row.word then row.says words else said_by others word words

-- what the words of a line say
abbrev pub said : List (List ℕ) → Option Item
said [] = None
said (word ∷ words) = said_by rows word words

-- the number of a session that is named is one of a session
abbrev pub IsNumbered : Item → Type 0
IsNumbered (Proc line) = Unit {0}
IsNumbered (Session session) = (1 ≤ session) × (session ≤ most_sessions)
IsNumbered Phase = Unit {0}
IsNumbered (Does step) = Unit {0}
