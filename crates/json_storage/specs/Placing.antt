-- Where a name stands among keys. (This project's own.)
use Rattle.std.specs.Prelude.{◌≡◌}
use Rattle.std.specs.FinMap as finite
use Rattle.std.specs.List.{AllByRecursion}
use Rattle.std.specs.declared.cmp.Ordering.TheVariants.{Less}
use Rattle.model_names.specs.Name.{Name}
use Rattle.model_names.specs.Order.{name_cmp}
use Rattle.model_maps.specs.Entry.{Entry}
use Rattle.model_maps.specs.KeyMap.{KeyMap}

-- a name stands behind all keys of a map
abbrev pub IsBehind : Name → KeyMap → Type 0
IsBehind name keys = AllByRecursion (λ (key : Name × Entry). name_cmp key.0 name ≡ Less) (finite.entries keys)
