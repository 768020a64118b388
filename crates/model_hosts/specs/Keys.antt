-- The keys of a hosts file: a host's key holds its address and comments, and stands above the keys of its aliases.
-- (After Elektra's hosts plugin, in this profile.)
use Rattle.std.specs.Prelude.{◌≡◌, ◌≢◌, ◌⊎◌, ℕ, ◌<◌, ◌≤◌, ◌==◌, if◌then◌else◌, List, [], ◌∷◌, length, Some, codes}
use Rattle.std.specs.FinMap as finite
use Rattle.std.specs.List.{AllByRecursion, list_any}
use Rattle.model_names.specs.declared.namespaces.Namespace.TheVariants.{Cascading}
use Rattle.model_names.specs.ArrayPart.{last_index}
use Rattle.model_names.specs.Name.{Part, Name}
use Rattle.model_maps.specs.Entry.{Entry, plain_entry}
use Rattle.model_maps.specs.KeyMap.{KeyMap}
use Rattle.model_formats.specs.Holding.{EachHas, LacksFirst}
use Rattle.model_hosts.specs.Comments.{comments, texts_of}

-- the family of an address: `ipv6` where it has a `:`, and else `ipv4`
abbrev pub family : List ℕ → List ℕ
family address = if list_any (λ b. b == 58) address then codes "ipv6" else codes "ipv4"

abbrev pub host_name : Part → Part → Name
host_name of_family host = record { namespace = Cascading; parts = of_family ∷ host ∷ [] }

abbrev pub alias_name : Part → Part → Part → Name
alias_name of_family host alias = record { namespace = Cascading; parts = of_family ∷ host ∷ alias ∷ [] }

-- a byte of a word: no NUL, tab, line feed, carriage return, blank or `#`
pub record IsWordByte (b : ℕ) : Type 0 where
  pub some : 0 < b
  pub no_tab : b ≢ 9
  pub no_feed : b ≢ 10
  pub no_return : b ≢ 13
  pub no_blank : b ≢ 32
  pub no_hash : b ≢ 35

-- an address, a host or an alias, as it stands in a line
pub record IsWord (word : List ℕ) : Type 0 where
  pub filled : word ≢ []
  pub bytes : AllByRecursion IsWordByte word

-- a text that stands on one line
abbrev pub IsOneLine : List ℕ → Type 0
IsOneLine text = AllByRecursion (λ b. (b ≢ 10) × (b ≢ 13)) text

-- a host's key: its family is that of its address, and its metadata are just an array of comments
pub record IsHostKey (name : Name) (entry : Entry) : Type 0 where
  pub host : Part
  pub is_host : name ≡ host_name (family entry.value) host
  pub address : IsWord entry.value
  pub word : IsWord host
  pub are_comments : entry.meta ≡ comments (texts_of entry.meta)
  pub few : length (texts_of entry.meta) ≤ last_index
  pub one_line : AllByRecursion IsOneLine (texts_of entry.meta)

-- an alias's key: the key of its host is there, and it holds nothing
pub record IsAliasKey (keys : KeyMap) (name : Name) (entry : Entry) : Type 0 where
  pub of_family : Part
  pub host : Part
  pub alias : Part
  pub is_alias : name ≡ alias_name of_family host alias
  pub word : IsWord alias
  pub plain : entry ≡ plain_entry []
  pub host_entry : Entry
  pub found : finite.get keys (host_name of_family host) ≡ Some host_entry

abbrev pub IsHostsKey : KeyMap → Name → Entry → Type 0
IsHostsKey keys name entry = IsHostKey name entry ⊎ IsAliasKey keys name entry

abbrev pub IsStorable : KeyMap → Type 0
IsStorable keys = EachHas (IsHostsKey keys) keys

-- the first key that is neither
abbrev pub BreaksAt : KeyMap → Name → Type 0
BreaksAt keys name = LacksFirst (IsHostsKey keys) keys name
