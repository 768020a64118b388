-- Which keys a JSON file can hold beside the others. (After Elektra's JSON storage; the profile is this project's own.)
use Rattle.std.specs.Prelude.{◌≡◌, ◌≢◌, ℕ, ◌≤◌, Bool, false, List, [], ◌∷◌, length}
use Rattle.std.specs.FinMap as finite
use Rattle.model_names.specs.ArrayPart.{is_array_like}
use Rattle.model_names.specs.Name.{Part, Name}
use Rattle.model_maps.specs.Entry.{Entry}
use Rattle.model_maps.specs.KeyMap.{KeyMap}
use Rattle.model_formats.specs.Holding.{EachHas, LacksFirst}
use Rattle.model_json.specs.Tree.{tree_of, Fits}

-- the most parts of a key: objects and arrays nest no deeper
abbrev pub most_parts : ℕ
most_parts = 100

-- the first part looks like an array's
abbrev pub begins_as_item : List Part → Bool
begins_as_item [] = false
begins_as_item (part ∷ parts) = is_array_like part

-- a key of the object: it has a value alone and parts, of which the first is a member's, no key is below it, and at
-- each of its parts the parts that keys have there are of one kind
pub record IsJsonKey (keys : KeyMap) (name : Name) (entry : Entry) : Type 0 where
  pub no_meta : entry.meta ≡ finite.empty
  pub some_part : name.parts ≢ []
  pub few_parts : length name.parts ≤ most_parts
  pub is_member : begins_as_item name.parts ≡ false
  pub fits : Fits name.parts (tree_of keys)

abbrev pub IsStorable : KeyMap → Type 0
IsStorable keys = EachHas (IsJsonKey keys) keys

-- the first key that can't be held
abbrev pub BreaksAt : KeyMap → Name → Type 0
BreaksAt keys name = LacksFirst (IsJsonKey keys) keys name
