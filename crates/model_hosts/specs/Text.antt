-- The one text of a map as a hosts file. (After Elektra's hosts plugin; the layout is this project's own.)
use Rattle.std.specs.Prelude.{ℕ, false, ◌==◌, if◌then◌else◌, List, [], ◌∷◌, ◌++◌, length, map}
use Rattle.std.specs.FinMap as finite
use Rattle.std.specs.List.{flat_map}
use Rattle.model_names.specs.Name.{Part, Name}
use Rattle.model_maps.specs.Entry.{Entry}
use Rattle.model_maps.specs.KeyMap.{KeyMap}
use Rattle.model_formats.specs.Format.{Format}
use Rattle.model_lines.specs.Lines.{ended}
use Rattle.model_hosts.specs.Comments.{texts_of}
use Rattle.model_hosts.specs.Keys.{IsHostsKey}
use Rattle.model_hosts.specs.Hosts.{Reads, IsBadAt}

-- a host with its entry and its aliases
pub record Group : Type 0 where
  pub host : Part
  pub entry : Entry
  pub aliases : List Part

abbrev pub last_part : List Part → Part
last_part [] = []
last_part (part ∷ []) = part
last_part (part ∷ next ∷ parts) = last_part (next ∷ parts)

-- keys in name order as groups: each key of two parts is a host, and the keys behind it, up to the next host, are its
-- aliases; beside the groups, the aliases before the first host
abbrev pub grouped : List (Name × Entry) → List Part × List Group
grouped [] = ([], [])
grouped (key ∷ keys) =
    let rest = grouped keys in
    if length key.0.parts == 2 then ([], record { host = last_part key.0.parts; entry = key.1; aliases = rest.0 } ∷ rest.1) else (last_part key.0.parts ∷ rest.0, rest.1)

-- the line of an entry: the address, a tab, the host, and each alias behind a blank
abbrev pub host_line : List ℕ → Part → List Part → List ℕ
host_line address host aliases = address ++ 9 ∷ (host ++ flat_map (λ alias. 32 ∷ alias) aliases)

-- the lines of a group: its comments, each behind a `#`, and the entry
abbrev pub lines_of : Group → List (List ℕ)
lines_of group =
    map (λ text. 35 ∷ text) (texts_of group.entry.meta) ++ host_line group.entry.value group.host group.aliases ∷ []

-- the text of a map
abbrev pub text : KeyMap → List ℕ
text keys = ended (flat_map lines_of (grouped (finite.entries keys)).1)

-- the format, which doesn't go by keys
abbrev pub hosts : Format
hosts = record { Reads = Reads; IsBadAt = IsBadAt; text = text; Holds = IsHostsKey; is_keywise = false }
