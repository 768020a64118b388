-- Which keys of a map have a property, and the first that lacks it. (This project's own.)
use Rattle.std.specs.Prelude.{◌≡◌, List, ◌∷◌, ◌++◌, Some}
use Rattle.std.specs.List.{AllByRecursion}
use Rattle.std.specs.FinMap as map
use Rattle.model_names.specs.Name.{Name}
use Rattle.model_maps.specs.Entry.{Entry}
use Rattle.model_maps.specs.KeyMap.{KeyMap, no_keys}

-- every key of a map has a property
abbrev pub EachHas : (Name → Entry → Type 0) → KeyMap → Type 0
EachHas Has keys = (name : Name) (entry : Entry) → map.get keys name ≡ Some entry → Has name entry

-- a key lacks it, and all keys before it in name order have it
pub record LacksFirst (Has : Name → Entry → Type 0) (keys : KeyMap) (name : Name) : Type 0 where
  pub front : List (Name × Entry)
  pub entry : Entry
  pub behind : List (Name × Entry)
  pub all : map.entries keys ≡ front ++ (name, entry) ∷ behind
  pub before : AllByRecursion (λ key. Has key.0 key.1) front
  pub lacks : Has name entry → ⊥

-- a map has a property exactly where each key alone has it
pub record IsKeywise (Has : KeyMap → Type 0) (keys : KeyMap) : Type 0 where
  pub each : Has keys → (name : Name) (entry : Entry) → map.get keys name ≡ Some entry
      → Has (map.insert no_keys name entry)
  pub all : ((name : Name) (entry : Entry) → map.get keys name ≡ Some entry → Has (map.insert no_keys name entry))
      → Has keys
