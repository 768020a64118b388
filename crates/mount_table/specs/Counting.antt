-- How the conflicts of a mount are counted: by its whole backend, or by key. (This project's own.)
use Rattle.std.specs.Prelude.{ℕ, Bool, true, false, if◌then◌else◌, List, Option, Some, None, codes}
use Rattle.general_words.specs.Texts.{is_text}
use Rattle.kdb_outside.specs.declared.kinds.Kind.{Kind}
use Rattle.kdb_outside.specs.declared.kinds.Kind.TheVariants.{Dump, SimpleIni, Hosts, Json}

-- the two words of the child `conflicts`
abbrev pub backend_word : List ℕ
backend_word = codes "backend"

abbrev pub keys_word : List ℕ
keys_word = codes "keys"

-- a file of this format can take each key beside any others, so its mount may count by key
abbrev pub may_count : Kind → Bool
may_count Dump = true
may_count SimpleIni = true
may_count Hosts = false
may_count Json = false

-- the word `keys` counts by key where the format allows it, `backend` doesn't, and no other word is one
abbrev pub counted_by : Kind → List ℕ → Option Bool
counted_by kind word =
    if is_text word keys_word then (if may_count kind then Some true else None) else
    (if is_text word backend_word then Some false else None)

-- how an entry says that its conflicts are counted; one that says nothing counts by its backend
abbrev pub counting_said : Kind → Option (List ℕ) → Option Bool
counting_said kind None = Some false
counting_said kind (Some word) = counted_by kind word

-- what an entry that is added says of it: nothing where its backend counts
abbrev pub word_added : Bool → Option (List ℕ)
word_added by_key = if by_key then Some keys_word else None
