-- Keys under names that stand behind another one, and under those that lead there from it. (After Elektra's page on
-- mounting.)
use Rattle.std.specs.Prelude.{Bool, nat_le, length, map as over, Option, filter_map}
use Rattle.std.specs.FinMap as map
use Rattle.std.specs.List.{list_all}
use Rattle.std.specs.Option.{option_map}
use Rattle.key_name.specs.Joining.{joined, way_to}
use Rattle.key_set.specs.WithAll.{with_keys}
use Rattle.model_names.specs.Name.{Name}
use Rattle.model_names.specs.Spelling.{path}
use Rattle.model_names.specs.Spells.{longest_path}
use Rattle.model_maps.specs.Entry.{Entry}
use Rattle.model_maps.specs.KeyMap.{KeyMap, no_keys}

-- a key under its whole name, which begins with a point
abbrev pub as_whole : Name → Name × Entry → Name × Entry
as_whole point key = (joined point key.0, key.1)

-- a whole name is short enough to be a name
abbrev pub has_whole : Name → Name → Bool
has_whole point name = nat_le (length (path (joined point name))) longest_path

-- the whole name of a key is
abbrev pub fits : Name → Name × Entry → Bool
fits point key = has_whole point key.0

-- keys under whole names
abbrev pub whole : Name → KeyMap → KeyMap
whole point keys = with_keys (over (as_whole point) (map.entries keys)) no_keys

-- each whole name is short enough
abbrev pub all_fit : Name → KeyMap → Bool
all_fit point keys = list_all (fits point) (map.entries keys)

-- a key at or below a point, under the name that leads there
abbrev pub as_way : Name → Name × Entry → Option (Name × Entry)
as_way point key = option_map (λ way. (way, key.1)) (way_to point key.0)

-- the keys at or below a point, under the names that lead there
abbrev pub relative : Name → KeyMap → KeyMap
relative point keys = with_keys (filter_map (as_way point) (map.entries keys)) no_keys
