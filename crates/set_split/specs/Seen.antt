-- Parts as the code has them, seen as numbers of mounts and maps.
use Rattle.std.specs.Prelude.{ℕ, List, map}
use Rattle.model_maps.specs.KeyMap.{KeyMap}
use Rattle.set_split.specs.declared.parts.Part.{Part}

-- each mount's number with its keys
abbrev pub numbered : List Part → List (ℕ × KeyMap)
numbered parts = map (λ part. (part.mount, part.keys)) parts

-- the keys of each part
abbrev pub maps_of : List Part → List KeyMap
maps_of parts = map (λ part. part.keys) parts
