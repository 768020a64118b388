-- Which bytes read as which map in a hosts file, and which are bad at which line. (After Elektra's hosts plugin; the
-- limits, and that one host twice in a family has no reading, are this project's own.)
use Rattle.std.specs.Prelude.{◌≡◌, ℕ, ◌<◌, ◌≤◌, List, [], ◌∷◌, ◌++◌, length, Option, Some, None}
use Rattle.std.specs.FinMap as finite
use Rattle.std.specs.List.{AllByRecursion}
use Rattle.std.specs.Str.{IsUtf8}
use Rattle.model_names.specs.ArrayPart.{last_index}
use Rattle.model_names.specs.Name.{Part}
use Rattle.model_names.specs.WellFormed.{IsName}
use Rattle.model_maps.specs.Entry.{Entry, plain_entry, IsValue}
use Rattle.model_maps.specs.KeyMap.{KeyMap, no_keys, weight, heaviest_map}
use Rattle.model_lines.specs.Lines.{lines}
use Rattle.model_lines.specs.Reading.{Leads, StopsAt}
use Rattle.model_hosts.specs.Line.{Meaning, Skipped, Comment, Gives, Unreadable, meaning}
use Rattle.model_hosts.specs.Comments.{comments}
use Rattle.model_hosts.specs.Keys.{family, host_name, alias_name}

-- how far a file was read: its keys so far, and the comments that wait for an entry
pub record Progress : Type 0 where
  pub keys : KeyMap
  pub waiting : List (List ℕ)

-- nothing was read
abbrev pub start : Progress
start = record { keys = no_keys; waiting = [] }

-- the comments of an entry: those that waited, and last its own
abbrev pub with_own : List (List ℕ) → Option (List ℕ) → List (List ℕ)
with_own waiting None = waiting
with_own waiting (Some own) = waiting ++ own ∷ []

-- an address with comments
abbrev pub host_entry : List ℕ → List (List ℕ) → Entry
host_entry address texts = record { value = address; meta = comments texts }

-- a map with the keys of aliases; one that is there already stays as it is
abbrev pub with_aliases : Part → Part → List Part → KeyMap → KeyMap
with_aliases of_family host [] keys = keys
with_aliases of_family host (alias ∷ aliases) keys =
    with_aliases of_family host aliases (finite.insert keys (alias_name of_family host alias) (plain_entry []))

-- an entry adds a host that is new in its family, its aliases, and the comments that waited; the words are parts as
-- they are
pub record AddsHost (before : Progress) (address host : List ℕ) (aliases : List (List ℕ)) (own : Option (List ℕ)) (after : Progress) : Type 0 where
  pub is_new : finite.get before.keys (host_name (family address) host) ≡ None
  pub is_name : IsName (host_name (family address) host)
  pub are_names : AllByRecursion (λ alias. IsName (alias_name (family address) host alias)) aliases
  pub is_value : IsValue address
  pub no_nul : AllByRecursion (λ b. 0 < b) address
  pub are_values : AllByRecursion IsValue (with_own before.waiting own)
  pub few : length (with_own before.waiting own) ≤ last_index
  pub added : after
      ≡ record { keys = with_aliases (family address) host aliases (finite.insert before.keys (host_name (family address) host) (host_entry address (with_own before.waiting own))); waiting = [] }
  pub light : weight after.keys ≤ heaviest_map

-- what a line of each meaning makes of what was read before it
abbrev pub Does : Meaning → Progress → Progress → Type 0
Does Skipped before after = after ≡ before
Does (Comment text) before after = after ≡ record { keys = before.keys; waiting = before.waiting ++ text ∷ [] }
Does (Gives address host aliases own) before after = AddsHost before address host aliases own after
Does Unreadable before after = ⊥

-- a line has a reading behind the lines before it: it is UTF-8, skipped or not, and does what it says
pub record Step (before : Progress) (line : List ℕ) (after : Progress) : Type 0 where
  pub utf8 : IsUtf8 line
  pub does : Does (meaning line) before after

-- bytes read as the map that their lines lead to; comments that wait at the end are dropped
pub record Reads (bytes : List ℕ) (keys : KeyMap) : Type 0 where
  pub waiting : List (List ℕ)
  pub leads : Leads Step start (lines bytes) (record { keys = keys; waiting = waiting })

-- or they are bad at the first line that has no reading, which counts from 1
abbrev pub IsBadAt : List ℕ → ℕ → Type 0
IsBadAt bytes line = StopsAt Step start (lines bytes) line
