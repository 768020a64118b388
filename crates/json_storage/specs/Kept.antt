-- What a value keeps where only the names of one kind stand side by side: at which parts keys fit into it. (This
-- project's own.)
use Rattle.std.specs.Prelude.{◌≡◌, ◌≢◌, ℕ, ◌+◌, ◌≤◌, ◌&&◌, ◌||◌, Bool, true, false, not, if◌then◌else◌, List, [], ◌∷◌, length}
use Rattle.std.specs.FinMap as finite
use Rattle.general_words.specs.Texts.{is_text}
use Rattle.model_names.specs.ArrayPart.{is_array_like, array_part}
use Rattle.model_names.specs.Name.{Part, Name}
use Rattle.model_maps.specs.Entry.{Entry}
use Rattle.serde_json.specs.Data.{Data, null, boolean, number, string, array, object, Members, no_members, member}
use Rattle.model_json.specs.Tree.{IsText, child}
use Rattle.model_json.specs.Keys.{most_parts, begins_as_item}

-- the tests of `AreNames`, `AreItems` and `AreOfOneKind`
abbrev pub are_names : Members → Bool
are_names no_members = true
are_names (member name d ms) = not (is_array_like name) && are_names ms

abbrev pub are_items : ℕ → Members → Bool
are_items index no_members = true
are_items index (member name d ms) = is_text name (array_part index) && are_items (index + 1) ms

abbrev pub are_of_one_kind : Members → Bool
are_of_one_kind ms = are_names ms || are_items 0 ms

-- an object whose names are of two kinds keeps nothing, and a text is no longer told
abbrev mutual
  pub kept : Data → Data
  kept null = null
  kept (boolean b) = null
  kept (number n) = null
  kept (string text) = string []
  kept (array ds) = null
  kept (object ms) = if are_of_one_kind ms then object (kept_members ms) else null

  pub kept_members : Members → Members
  kept_members no_members = no_members
  kept_members (member name d ms) = member name (kept d) (kept_members ms)

-- a text stands at some parts
abbrev pub HasText : List Part → Data → Type 0
HasText [] d = IsText d
HasText (part ∷ parts) d = HasText parts (child part d)

-- a key has a value alone and parts, of which the first is a member's
pub record CanStand (name : Name) (entry : Entry) : Type 0 where
  pub no_meta : entry.meta ≡ finite.empty
  pub some_part : name.parts ≢ []
  pub few_parts : length name.parts ≤ most_parts
  pub is_member : begins_as_item name.parts ≡ false
