-- How the keys at or below a name stand in a map. (This project's own.)
use Rattle.std.specs.Prelude.{◌≡◌, List, ◌++◌}
use Rattle.std.specs.FinMap as map
use Rattle.model_names.specs.Name.{Name}
use Rattle.model_maps.specs.Entry.{Entry}
use Rattle.model_maps.specs.KeyMap.{KeyMap, at_or_below, not_below}

-- in name order they stand together: the entries are those before them, they themselves, and those behind
pub record StandTogether (above : Name) (keys : KeyMap) : Type 0 where
  pub before : List (Name × Entry)
  pub behind : List (Name × Entry)
  pub all : map.entries keys ≡ before ++ (map.entries (at_or_below above keys) ++ behind)
  pub others : map.entries (not_below above keys) ≡ before ++ behind
