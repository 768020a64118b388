-- What an element or a member adds, by what its value adds.
use Rattle.std.specs.Prelude.{◌≡◌, ℕ, ◌+◌, Bool, true, false, List, [], ◌∷◌, ◌++◌, length}
use Rattle.std.proofs.Common.{sym, ap, subst, arith, length-append}
use Rattle.std.specs.FinMap as finite
use Rattle.std.proofs.lemmas.List.{length-map}
use Rattle.model_names.specs.ArrayPart.{is_array_like, array_part}
use Rattle.model_names.specs.Name.{Part, Name}
use Rattle.model_names.specs.WellFormed.{IsName}
use Rattle.key_name.specs.Children.{child_of}
use Rattle.serde_json.specs.Data.{Data}
use Rattle.model_json.specs.Leaves.{Leaf}
use Rattle.model_json.specs.Tree.{leaf_of}
use Rattle.model_json.specs.Reading.{IsNamed}
use Rattle.json_storage.specs.Found.{leaves_in, HasAdded}
use Rattle.json_storage.specs.Reading.{ValueAdds, ItemAdds, MemberAdds}
use Rattle.json_storage.specs.declared.found.Found.{Found}

-- ---- names

pub unnamed : (name : Name) (part : Part) → (IsName (child_of name part) → ⊥) → IsNamed name.parts part → ⊥
unnamed name part none is = none (record { parts = is.parts; limit = is.limit })

pub child-named : (name at : Name) (part : Part) → at ≡ child_of name part → IsName at → IsNamed name.parts part
child-named name at part is named = let n = subst IsName is named in record { parts = n.parts; limit = n.limit }

pub child-parts : (name at : Name) (part : Part) → at ≡ child_of name part → at.parts ≡ name.parts ++ part ∷ []
child-parts name at part is = ap (λ (n : Name). n.parts) is

-- ---- elements

pub item-stops : (before at : List Part) (index : ℕ) (d : Data) (found after other : Found)
    → at ≡ before ++ array_part index ∷ [] → HasAdded (ValueAdds at d) found after false
    → HasAdded (ItemAdds before index d) found other false
item-stops before at index d found after other is fails =
    λ added more keys adds fill. fails added more keys (subst (λ parts. ValueAdds parts d added) (sym is) adds.value) fill

grown : (found after : Found) (added : List Leaf) → leaves_in after.keys ≡ leaves_in found.keys ++ added
    → length (finite.entries after.keys) ≡ length (finite.entries found.keys) + length added
grown found after added joined =
    let old = length-map (finite.entries found.keys) leaf_of in
    let new = length-map (finite.entries after.keys) leaf_of in
    omega (arith, old, new, ap length joined, length-append (leaves_in found.keys) added)

-- ---- members

pub member-value : (before at : List Part) (part : Part) (d : Data) (found after : Found) (b : Bool)
    → at ≡ before ++ part ∷ [] → is_array_like part ≡ false → IsNamed before part
    → HasAdded (ValueAdds at d) found after b → HasAdded (MemberAdds before part d) found after b
member-value before at part d found after true is unlike named j =
    record {
      added = j.added;
      adds = record { unlike = unlike; is_named = named; value = subst (λ parts. ValueAdds parts d j.added) is j.adds };
      joined = j.joined;
      sound = j.sound;
    }
member-value before at part d found after false is unlike named fails =
    λ added more keys adds fill. fails added more keys (subst (λ parts. ValueAdds parts d added) (sym is) adds.value) fill
