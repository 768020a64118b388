-- Which maps a file can hold, whatever its format: names without a namespace, and texts and a weight within their
-- limits. (This project's own.)
use Rattle.std.specs.Prelude.{◌≡◌, ℕ, ◌≤◌, List, Some}
use Rattle.std.specs.FinMap as finite
use Rattle.model_names.specs.declared.namespaces.Namespace.TheVariants.{Cascading}
use Rattle.model_names.specs.Name.{Name}
use Rattle.model_names.specs.WellFormed.{IsName}
use Rattle.model_maps.specs.Entry.{Entry, IsValue, IsMetaName}
use Rattle.model_maps.specs.KeyMap.{KeyMap, weight, heaviest_map}

-- a metadata name with its text
pub record IsLimitedMeta (name text : List ℕ) : Type 0 where
  pub is_name : IsMetaName name
  pub is_value : IsValue text

-- a key with its entry
pub record IsLimitedKey (name : Name) (entry : Entry) : Type 0 where
  pub is_name : IsName name
  pub cascading : name.namespace ≡ Cascading
  pub is_value : IsValue entry.value
  pub each_meta : (meta_name text : List ℕ) → finite.get entry.meta meta_name ≡ Some text → IsLimitedMeta meta_name text

-- every key of a map, and its weight
pub record IsLimited (keys : KeyMap) : Type 0 where
  pub each : (name : Name) (entry : Entry) → finite.get keys name ≡ Some entry → IsLimitedKey name entry
  pub light : weight keys ≤ heaviest_map
