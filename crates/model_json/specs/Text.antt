-- The one text of a map as a JSON file. (After Elektra's JSON storage; the layout is this project's own.)
use Rattle.std.specs.Prelude.{ℕ, Bool, false, if◌then◌else◌, List, [], ◌∷◌, ◌++◌}
use Rattle.model_names.specs.ArrayPart.{is_array_like}
use Rattle.model_maps.specs.KeyMap.{KeyMap}
use Rattle.model_formats.specs.Format.{Format}
use Rattle.serde_json.specs.Data.{Data, null, boolean, number, string, array, object, Items, no_items, item, Members, no_members, member}
use Rattle.serde_json.specs.Written.{compact_text}
use Rattle.model_json.specs.Tree.{tree_of}
use Rattle.model_json.specs.Keys.{IsJsonKey}
use Rattle.model_json.specs.Reading.{Reads, IsBadAt}

-- the first name looks like an array's
abbrev pub begin_as_items : Members → Bool
begin_as_items no_members = false
begin_as_items (member name d ms) = is_array_like name

-- an object whose names are array parts is an array, at every depth
abbrev mutual
  pub with_arrays : Data → Data
  with_arrays null = null
  with_arrays (boolean b) = boolean b
  with_arrays (number n) = number n
  with_arrays (string text) = string text
  with_arrays (array ds) = array ds
  with_arrays (object ms) = if begin_as_items ms then array (elements ms) else object (members_with_arrays ms)

  pub elements : Members → Items
  elements no_members = no_items
  elements (member name d ms) = item (with_arrays d) (elements ms)

  pub members_with_arrays : Members → Members
  members_with_arrays no_members = no_members
  members_with_arrays (member name d ms) = member name (with_arrays d) (members_with_arrays ms)

-- the text of a map: that of its object, in which every value is a string, without blanks, and a line feed
abbrev pub text : KeyMap → List ℕ
text keys = compact_text (with_arrays (tree_of keys)) ++ 10 ∷ []

-- the format, which doesn't go by keys
abbrev pub json_files : Format
json_files = record { Reads = Reads; IsBadAt = IsBadAt; text = text; Holds = IsJsonKey; is_keywise = false }
