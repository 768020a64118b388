-- Which leaves each part of a JSON value adds behind some parts. (This project's own.)
use Rattle.std.specs.Prelude.{◌≡◌, ◌≢◌, ℕ, false, List, [], ◌∷◌, ◌++◌, map, Some}
use Rattle.model_names.specs.ArrayPart.{is_array_like, array_part}
use Rattle.model_names.specs.Name.{Part}
use Rattle.serde_json.specs.Data.{Data, Items, Members}
use Rattle.model_json.specs.Leaves.{Leaf, leaves, items_leaves, members_leaves}
use Rattle.model_json.specs.Reading.{IsNamed, AreNamed, ItemsNamed, MembersNamed}

-- leaves with parts before their own
abbrev pub under : List Part → List Leaf → List Leaf
under before found = map (λ leaf. (before ++ leaf.0, leaf.1)) found

-- a value
pub record ValueAdds (before : List Part) (d : Data) (added : List Leaf) : Type 0 where
  pub here : List Leaf
  pub named : AreNamed before d
  pub are : leaves d ≡ Some here
  pub all : added ≡ under before here

-- an element
pub record ItemAdds (before : List Part) (index : ℕ) (d : Data) (added : List Leaf) : Type 0 where
  pub is_named : IsNamed before (array_part index)
  pub value : ValueAdds (before ++ array_part index ∷ []) d added
  pub some : added ≢ []

-- elements from an index on
pub record ItemsAdd (before : List Part) (index : ℕ) (ds : Items) (added : List Leaf) : Type 0 where
  pub here : List Leaf
  pub named : ItemsNamed before index ds
  pub are : items_leaves index ds ≡ Some here
  pub all : added ≡ under before here

-- a member
pub record MemberAdds (before : List Part) (name : Part) (d : Data) (added : List Leaf) : Type 0 where
  pub unlike : is_array_like name ≡ false
  pub is_named : IsNamed before name
  pub value : ValueAdds (before ++ name ∷ []) d added

-- members
pub record MembersAdd (before : List Part) (ms : Members) (added : List Leaf) : Type 0 where
  pub here : List Leaf
  pub named : MembersNamed before ms
  pub are : members_leaves ms ≡ Some here
  pub all : added ≡ under before here
