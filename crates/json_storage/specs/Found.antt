-- Keys that were read so far, as leaves, and what one more part of a file adds to them. (This project's own.)
use Rattle.std.specs.Prelude.{◌≡◌, ◌≤◌, Bool, true, false, List, ◌++◌, length, map}
use Rattle.std.specs.FinMap as finite
use Rattle.std.specs.List.{AllByRecursion}
use Rattle.model_maps.specs.KeyMap.{KeyMap, weight}
use Rattle.model_maps.specs.Limits.{IsLimited}
use Rattle.model_json.specs.Leaves.{Leaf}
use Rattle.model_json.specs.Tree.{leaf_of}
use Rattle.model_json.specs.Keys.{most_parts}
use Rattle.model_json.specs.Reading.{key_of}
use Rattle.json_storage.specs.declared.found.Found.{Found}

-- leaves that are the keys of a map within the limits
pub record Fill (found : List Leaf) (keys : KeyMap) : Type 0 where
  pub all : finite.entries keys ≡ map key_of found
  pub few : AllByRecursion (λ (leaf : Leaf). length leaf.0 ≤ most_parts) found
  pub limited : IsLimited keys

-- the keys of a map as leaves
abbrev pub leaves_in : KeyMap → List Leaf
leaves_in keys = map leaf_of (finite.entries keys)

-- the keys so far are a map of leaves, and the weight is theirs
pub record IsSound (found : Found) : Type 0 where
  pub fill : Fill (leaves_in found.keys) found.keys
  pub weighed : found.weight ≡ weight found.keys

-- leaves have joined those that were there
pub record Joined (Adds : List Leaf → Type 0) (before after : Found) : Type 0 where
  pub added : List Leaf
  pub adds : Adds added
  pub joined : leaves_in after.keys ≡ leaves_in before.keys ++ added
  pub sound : IsSound after

-- what a part of a file adds has joined the keys, or whatever it adds, the keys with it and any others behind are no
-- map of a file
abbrev pub HasAdded : (List Leaf → Type 0) → Found → Found → Bool → Type 0
HasAdded Adds before after true = Joined Adds before after
HasAdded Adds before after false =
    (added more : List Leaf) (keys : KeyMap) → Adds added → Fill (leaves_in before.keys ++ (added ++ more)) keys → ⊥
