-- Keys with others set among them. (Elektra's KeySet, ksAppend.)
use Rattle.std.specs.Prelude.{List, [], ◌∷◌}
use Rattle.std.specs.FinMap as map
use Rattle.model_names.specs.Name.{Name}
use Rattle.model_maps.specs.Entry.{Entry}
use Rattle.model_maps.specs.KeyMap.{KeyMap}

-- keys with some others set, one after the other
abbrev pub with_keys : List (Name × Entry) → KeyMap → KeyMap
with_keys [] keys = keys
with_keys (other ∷ others) keys = with_keys others (map.insert keys other.0 other.1)

-- keys with those of another map set: each of its names has its entry there
abbrev pub with_all : KeyMap → KeyMap → KeyMap
with_all others keys = with_keys (map.entries others) keys
