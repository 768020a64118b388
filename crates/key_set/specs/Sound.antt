-- What the names and texts of keys are that lead from a point to others, whatever their lengths.
use Rattle.std.specs.Prelude.{◌≡◌, ℕ, List, Some}
use Rattle.std.specs.FinMap as map
use Rattle.std.specs.Str.{IsUtf8}
use Rattle.key_name.specs.Joining.{joined}
use Rattle.model_names.specs.declared.namespaces.Namespace.TheVariants.{Cascading}
use Rattle.model_names.specs.Name.{Name}
use Rattle.model_names.specs.WellFormed.{IsName}
use Rattle.model_maps.specs.Entry.{Entry, IsMetaName}
use Rattle.model_maps.specs.KeyMap.{KeyMap}

-- every name is cascading
abbrev pub AreCascading : KeyMap → Type 0
AreCascading keys = (name : Name) (entry : Entry) → map.get keys name ≡ Some entry → name.namespace ≡ Cascading

-- a key behind a point: its name and its whole name are names, and its texts are texts
pub record IsSound (point name : Name) (entry : Entry) : Type 0 where
  pub is_name : IsName name
  pub cascading : name.namespace ≡ Cascading
  pub whole_is_name : IsName (joined point name)
  pub value : IsUtf8 entry.value
  pub meta_names : (meta_name text : List ℕ) → map.get entry.meta meta_name ≡ Some text → IsMetaName meta_name
  pub meta_texts : (meta_name text : List ℕ) → map.get entry.meta meta_name ≡ Some text → IsUtf8 text

-- every key is such
abbrev pub AreSound : Name → KeyMap → Type 0
AreSound point keys = (name : Name) (entry : Entry) → map.get keys name ≡ Some entry → IsSound point name entry
