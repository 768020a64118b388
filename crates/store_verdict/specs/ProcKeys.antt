-- Keys of a handle's own. (After Elektra's namespace `proc`.)
use Rattle.std.specs.Prelude.{◌≡◌, Some}
use Rattle.std.specs.FinMap as map
use Rattle.model_names.specs.Name.{Name}
use Rattle.model_names.specs.declared.namespaces.Namespace.TheVariants.{Proc}
use Rattle.model_maps.specs.Entry.{Entry}
use Rattle.model_maps.specs.KeyMap.{KeyMap}

-- all names are in `proc`
abbrev pub AreProc : KeyMap → Type 0
AreProc keys = (name : Name) (entry : Entry) → map.get keys name ≡ Some entry → name.namespace ≡ Proc
