-- The texts of a JSON value, each at the parts on the way to it. (After Elektra's JSON storage; the profile is this
-- project's own.)
use Rattle.std.specs.Prelude.{ℕ, ◌+◌, Bool, true, false, if◌then◌else◌, List, [], ◌∷◌, ◌++◌, map, Option, Some, None, option_map, option_and_then, decimal, codes}
use Rattle.std.specs.Fmt.{signed_decimal}
use Rattle.std.specs.Option.{option_or}
use Rattle.model_names.specs.ArrayPart.{is_array_like, array_part}
use Rattle.model_names.specs.Name.{Part}
use Rattle.serde_json.specs.Data.{Num, Data, null, boolean, number, string, array, object, Items, no_items, item, Members, no_members, member}
use Rattle.serde_json.specs.Find.{as_u64, as_i64}

-- a text, behind the parts on the way to it
abbrev pub Leaf : Type 0
Leaf = List Part × List ℕ

-- leaves with one more part on their way
abbrev pub within : Part → List Leaf → List Leaf
within part found = map (λ leaf. (part ∷ leaf.0, leaf.1)) found

-- a value that is a text
abbrev pub one_leaf : List ℕ → List Leaf
one_leaf text = ([], text) ∷ []

abbrev pub boolean_text : Bool → List ℕ
boolean_text true = codes "true"
boolean_text false = codes "false"

-- the digits of an integer of 64 bits, with or without a sign; no other number has a text
abbrev pub integer_text : Num → Option (List ℕ)
integer_text n = option_or (option_map decimal (as_u64 n)) (option_map signed_decimal (as_i64 n))

-- some leaves: an element of an array has at least one
abbrev pub if_some : List Leaf → Option (List Leaf)
if_some [] = None
if_some (leaf ∷ found) = Some (leaf ∷ found)

-- the leaves of one part, and those that follow
abbrev pub joined : Part → Option (List Leaf) → Option (List Leaf) → Option (List Leaf)
joined part here later = option_and_then (λ found. option_map (λ more. within part found ++ more) later) here

-- the leaves of a value in its order: a member's part is its name, which may not look like an array's; an element's
-- part is that of its index. A null has no reading, and no number that isn't an integer of 64 bits has one
abbrev mutual
  pub leaves : Data → Option (List Leaf)
  leaves null = None
  leaves (boolean b) = Some (one_leaf (boolean_text b))
  leaves (number n) = option_map one_leaf (integer_text n)
  leaves (string text) = Some (one_leaf text)
  leaves (array ds) = items_leaves 0 ds
  leaves (object ms) = members_leaves ms

  pub items_leaves : ℕ → Items → Option (List Leaf)
  items_leaves index no_items = Some []
  items_leaves index (item d ds) =
      joined (array_part index) (option_and_then if_some (leaves d)) (items_leaves (index + 1) ds)

  pub members_leaves : Members → Option (List Leaf)
  members_leaves no_members = Some []
  members_leaves (member name d ms) = if is_array_like name then None else joined name (leaves d) (members_leaves ms)
