-- Keys by the mounts that own them. (After Elektra's kdbSet, which splits a key set by its mountpoints.)
use Rattle.std.specs.Prelude.{ℕ, Bool, not, List, map as over}
use Rattle.std.specs.FinMap as map
use Rattle.std.specs.List.{list_any}
use Rattle.model_names.specs.Name.{Name}
use Rattle.model_maps.specs.KeyMap.{KeyMap}
use Rattle.set_split.specs.Involved.{involved_in, owns}

-- the keys that a mount owns
abbrev pub owned_by : List Name → ℕ → KeyMap → KeyMap
owned_by points i keys = map.retain_keys keys (owns points i)

-- the part of each mount that is involved in a parent: the mount's number, and the keys that it owns
abbrev pub parts_of : List Name → Name → KeyMap → List (ℕ × KeyMap)
parts_of points parent keys = over (λ i. (i, owned_by points i keys)) (involved_in points parent)

-- an involved mount owns a name
abbrev pub is_reached : List Name → Name → Name → Bool
is_reached points parent name = list_any (λ i. owns points i name) (involved_in points parent)

-- the keys that some involved mount owns
abbrev pub in_reach : List Name → Name → KeyMap → KeyMap
in_reach points parent keys = map.retain_keys keys (is_reached points parent)

-- the keys that none owns
abbrev pub left_aside : List Name → Name → KeyMap → KeyMap
left_aside points parent keys = map.retain_keys keys (λ name. not (is_reached points parent name))
