-- The object of a map on the way to its text, leaf by leaf from the last one. (This project's own.)
use Rattle.std.specs.Prelude.{◌≡◌, ◌≢◌, ◌⊎◌, ℕ, Bool, true, false, List, [], ◌∷◌, map, take, drop, ⊤}
use Rattle.std.specs.FinMap as finite
use Rattle.std.specs.declared.cmp.Ordering.TheVariants.{Less}
use Rattle.general_words.specs.Texts.{text_cmp}
use Rattle.model_names.specs.Name.{Part}
use Rattle.model_maps.specs.KeyMap.{KeyMap}
use Rattle.serde_json.specs.Data.{Data, Members, no_members, member}
use Rattle.model_json.specs.Leaves.{Leaf}
use Rattle.model_json.specs.Tree.{empty, leaf_of, members_in}

-- the parts of a name from one on, before an end
abbrev pub between : ℕ → ℕ → List Part → List Part
between from end parts = drop from (take end parts)

-- a leaf with its first parts alone
abbrev pub cut_leaf : ℕ → Leaf → Leaf
cut_leaf most leaf = (take most leaf.0, leaf.1)

-- one part more than a key may have, so that what stands below a key is seen
abbrev pub deepest : ℕ
deepest = 101

-- the keys of a map from one on as leaves, which go no deeper
abbrev pub cut_leaves : ℕ → KeyMap → List Leaf
cut_leaves from keys = map (cut_leaf deepest) (map leaf_of (drop from (finite.entries keys)))

-- there are members
abbrev pub are_some : Members → Bool
are_some no_members = false
are_some (member name d ms) = true

-- the first member, if there is one, has another name
abbrev pub BeginsOther : Part → Members → Type 0
BeginsOther part no_members = ⊤
BeginsOther part (member name d ms) = part ≢ name

-- the first member has a name
abbrev pub BeginsWith : Part → Members → Type 0
BeginsWith part no_members = ⊥
BeginsWith part (member name d ms) = part ≡ name

-- a name stands before those of all members
abbrev pub IsBefore : Part → Members → Type 0
IsBefore part no_members = ⊤
IsBefore part (member name d ms) = text_cmp part name ≡ Less

-- the first member was taken out where it has a name, and this is its value; else all are there, and this is an empty
-- object
abbrev pub TakesFirst : Part → Members → Members → Data → Type 0
TakesFirst part before after d =
    ((before ≡ member part d after) × IsBefore part after) ⊎ (BeginsOther part before × (after ≡ before) × (d ≡ empty))

-- a part stands before those of all members, or is that of the first, in whose value what follows goes on
abbrev pub LeadsFirst : Part → (Data → Type 0) → Members → Type 0
LeadsFirst part Goes no_members = ⊤
LeadsFirst part Goes (member name d ms) = (text_cmp part name ≡ Less) ⊎ ((part ≡ name) × Goes d)

-- some parts lead to a place in a value that stands behind no leaf of it
abbrev pub ComesFirst : List Part → Data → Type 0
ComesFirst [] d = ⊤
ComesFirst (part ∷ parts) d = LeadsFirst part (ComesFirst parts) (members_in d)
