-- The object of a map: each value stands at the parts of its name. (This project's own.)
use Rattle.std.specs.Prelude.{◌≡◌, ◌⊎◌, ℕ, ◌+◌, false, if◌then◌else◌, List, [], ◌∷◌, map, unwrap_or, ⊤}
use Rattle.std.specs.FinMap as finite
use Rattle.general_words.specs.Texts.{is_text}
use Rattle.model_names.specs.ArrayPart.{is_array_like, array_part}
use Rattle.model_names.specs.Name.{Part, Name}
use Rattle.model_maps.specs.Entry.{Entry}
use Rattle.model_maps.specs.KeyMap.{KeyMap}
use Rattle.serde_json.specs.Data.{Data, null, boolean, number, string, array, object, Members, no_members, member}
use Rattle.serde_json.specs.Find.{get}
use Rattle.model_json.specs.Leaves.{Leaf}

-- an object without members
abbrev pub empty : Data
empty = object no_members

abbrev pub members_in : Data → Members
members_in null = no_members
members_in (boolean b) = no_members
members_in (number n) = no_members
members_in (string text) = no_members
members_in (array ds) = no_members
members_in (object ms) = ms

-- a text where no members stand; it gives way to those
abbrev pub text_or : List ℕ → Data → Data
text_or text null = string text
text_or text (boolean b) = string text
text_or text (number n) = string text
text_or text (string other) = string text
text_or text (array ds) = string text
text_or text (object no_members) = string text
text_or text (object (member name d ms)) = object (member name d ms)

-- members whose first is changed where it has the part's name; else a new one stands before it
abbrev pub into : Part → (Data → Data) → Members → Members
into part change no_members = member part (change empty) no_members
into part change (member name d ms) =
    if is_text part name then member part (change d) ms else member part (change empty) (member name d ms)

-- an object with one more leaf, which comes before all others in name order
abbrev pub with_leaf : List Part → List ℕ → Data → Data
with_leaf [] text d = text_or text d
with_leaf (part ∷ parts) text d = object (into part (with_leaf parts text) (members_in d))

-- the object of leaves in name order; where one stands below another, the other has no text
abbrev pub tree : List Leaf → Data
tree [] = empty
tree (leaf ∷ found) = with_leaf leaf.0 leaf.1 (tree found)

-- the keys of a map as leaves
abbrev pub leaf_of : Name × Entry → Leaf
leaf_of key = (key.0.parts, key.1.value)

-- the object of a map
abbrev pub tree_of : KeyMap → Data
tree_of keys = tree (map leaf_of (finite.entries keys))

-- ---- which names may stand side by side

-- none of them looks like an array's
abbrev pub AreNames : Members → Type 0
AreNames no_members = ⊤
AreNames (member name d ms) = (is_array_like name ≡ false) × AreNames ms

-- they are the array parts from an index on
abbrev pub AreItems : ℕ → Members → Type 0
AreItems index no_members = ⊤
AreItems index (member name d ms) = (name ≡ array_part index) × AreItems (index + 1) ms

-- they are of one kind: names of members, or just the array parts of 0 up to some index
abbrev pub AreOfOneKind : Members → Type 0
AreOfOneKind ms = AreNames ms ⊎ AreItems 0 ms

abbrev pub IsText : Data → Type 0
IsText null = ⊥
IsText (boolean b) = ⊥
IsText (number n) = ⊥
IsText (string text) = ⊤
IsText (array ds) = ⊥
IsText (object ms) = ⊥

-- what stands at a part; nothing is an empty object
abbrev pub child : Part → Data → Data
child part d = unwrap_or (get part d) empty

-- on the way along some parts the names at each place are of one kind, and at its end is a text: no key stands below
abbrev pub Fits : List Part → Data → Type 0
Fits [] d = IsText d
Fits (part ∷ parts) d = AreOfOneKind (members_in d) × Fits parts (child part d)
