-- Several maps as one. (Elektra's KeySet: of two keys with one name, the one that is appended last stays.)
use Rattle.std.specs.Prelude.{◌≡◌, List, [], ◌∷◌, Option, None}
use Rattle.std.specs.FinMap as map
use Rattle.std.specs.Option.{option_or}
use Rattle.model_names.specs.Name.{Name}
use Rattle.model_maps.specs.Entry.{Entry}
use Rattle.model_maps.specs.KeyMap.{KeyMap}

-- what a name has in the last of some maps that has it
abbrev pub last_entry : List KeyMap → Name → Option Entry
last_entry [] name = None
last_entry (keys ∷ later) name = option_or (last_entry later name) (map.get keys name)

-- a map has what the last of some maps has that has a name, and no other name
abbrev pub IsUnion : List KeyMap → KeyMap → Type 0
IsUnion maps keys = (name : Name) → map.get keys name ≡ last_entry maps name
