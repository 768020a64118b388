-- Which bytes read as which map in a JSON file. (After Elektra's JSON storage; the profile is this project's own. What
-- a JSON text is, and how deep it may nest, are serde_json's.)
use Rattle.std.specs.Prelude.{◌≡◌, ◌⊎◌, ℕ, ◌+◌, ◌≤◌, List, [], ◌∷◌, ◌++◌, length, map, Some, ⊤}
use Rattle.std.specs.FinMap as finite
use Rattle.std.specs.List.{AllByRecursion}
use Rattle.std.specs.Str.{IsUtf8}
use Rattle.model_names.specs.declared.namespaces.Namespace.TheVariants.{Cascading}
use Rattle.model_names.specs.ArrayPart.{array_part}
use Rattle.model_names.specs.Name.{Part, Name}
use Rattle.model_names.specs.WellFormed.{IsName}
use Rattle.model_maps.specs.Entry.{Entry, plain_entry}
use Rattle.model_maps.specs.KeyMap.{KeyMap, no_keys}
use Rattle.model_maps.specs.Limits.{IsLimited}
use Rattle.serde_json.specs.Data.{Data, null, boolean, number, string, array, object, Items, no_items, item, Members, no_members, member}
use Rattle.serde_json.specs.Read.{read}
use Rattle.model_json.specs.Leaves.{Leaf, leaves}
use Rattle.model_json.specs.Keys.{most_parts}

-- the name of some parts in a file
abbrev pub name_at : List Part → Name
name_at parts = record { namespace = Cascading; parts = parts }

-- the key of a leaf
abbrev pub key_of : Leaf → Name × Entry
key_of leaf = (name_at leaf.0, plain_entry leaf.1)

-- a part makes a name behind others
abbrev pub IsNamed : List Part → Part → Type 0
IsNamed before part = IsName (name_at (before ++ part ∷ []))

-- each member and each element of a value behind some parts has a name, also where no key stands below it
abbrev mutual
  pub AreNamed : List Part → Data → Type 0
  AreNamed before null = ⊤
  AreNamed before (boolean b) = ⊤
  AreNamed before (number n) = ⊤
  AreNamed before (string text) = ⊤
  AreNamed before (array ds) = ItemsNamed before 0 ds
  AreNamed before (object ms) = MembersNamed before ms

  pub ItemsNamed : List Part → ℕ → Items → Type 0
  ItemsNamed before index no_items = ⊤
  ItemsNamed before index (item d ds) =
      IsNamed before (array_part index) × AreNamed (before ++ array_part index ∷ []) d × ItemsNamed before (index + 1) ds

  pub MembersNamed : List Part → Members → Type 0
  MembersNamed before no_members = ⊤
  MembersNamed before (member name d ms) =
      IsNamed before name × AreNamed (before ++ name ∷ []) d × MembersNamed before ms

-- bytes are a JSON text, whose value is an object, and its leaves are the keys of a map in name order, within the
-- limits of a file
pub record ReadsObject (bytes : List ℕ) (keys : KeyMap) : Type 0 where
  pub members : Members
  pub found : List Leaf
  pub utf8 : IsUtf8 bytes
  pub is_object : read bytes ≡ Some (object members)
  pub are_leaves : leaves (object members) ≡ Some found
  pub are_named : AreNamed [] (object members)
  pub few_parts : AllByRecursion (λ leaf. length leaf.0 ≤ most_parts) found
  pub all : finite.entries keys ≡ map key_of found
  pub limited : IsLimited keys

-- no bytes read as no keys
abbrev pub Reads : List ℕ → KeyMap → Type 0
Reads bytes keys = ((bytes ≡ []) × (keys ≡ no_keys)) ⊎ ReadsObject bytes keys

-- all others are bad as a whole: at the first line
abbrev pub IsBadAt : List ℕ → ℕ → Type 0
IsBadAt bytes line = (line ≡ 1) × ((keys : KeyMap) → Reads bytes keys → ⊥)
