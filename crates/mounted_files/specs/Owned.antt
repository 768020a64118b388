-- The keys of a file that other mounts own. (After Elektra's page on mounting.)
use Rattle.std.specs.Prelude.{ℕ, not, List}
use Rattle.std.specs.FinMap as map
use Rattle.model_names.specs.Name.{Name}
use Rattle.model_maps.specs.KeyMap.{KeyMap}
use Rattle.set_split.specs.Involved.{owns}

-- the keys that a mount doesn't own
abbrev pub not_owned_by : List Name → ℕ → KeyMap → KeyMap
not_owned_by points i keys = map.retain_keys keys (λ name. not (owns points i name))
