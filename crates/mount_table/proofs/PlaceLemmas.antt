-- Which names belong to which entry, told by their parts.
use Rattle.std.proofs.Common.{◌≡◌, Bool, true, false, cond, ◌&&◌, nat_eq, List, [], ◌∷◌, length, slice_get, Option, Some, None, codes, refl, sym, ap, ◌∙◌, arith, ◌<◌}
use Rattle.std.specs.Cmp.Lexicographic.{pointwise, texts_ties}
use Rattle.std.specs.List.{starts_with}
use Rattle.std.specs.Ordering.{eq_by_cmp}
use Rattle.std.proofs.lemmas.Cmp.{nat_list_cmp_total}
use Rattle.std.proofs.lemmas.Option.{slice_get_past}
use Rattle.general_words.proofs.Orders.{itself}
use Rattle.model_names.specs.declared.namespaces.Namespace.TheVariants.{System}
use Rattle.model_names.specs.Below.{is_at_or_below}
use Rattle.model_names.specs.Name.{Name, Part, rank}
use Rattle.general_words.specs.Texts.{text_cmp}
use Rattle.mount_table.specs.Places.{mountpoints, entry_name, text_of_entry}

-- a text is the one that there is
abbrev pub is_found : Part → Option Part → Bool
is_found text None = false
is_found text (Some other) = eq_by_cmp text_cmp text other

-- ---- an entry's keys

none_two : (text : Part) (r x : Bool) → (r && (x && false)) ≡ is_found text (cond (r && (x && false)) None None)
none_two text true true = refl
none_two text true false = refl
none_two text false x = refl

none_three : (text : Part) (r x y : Bool)
    → (r && (x && (y && false))) ≡ is_found text (cond (r && (x && (y && true))) None None)
none_three text true true true = refl
none_three text true true false = refl
none_three text true false y = refl
none_three text false x y = refl

some_three : (text other : Part) (r x y z : Bool) → z ≡ eq_by_cmp text_cmp text other
    → (r && (x && (y && (z && true)))) ≡ is_found text (cond (r && (x && (y && true))) (Some other) None)
some_three text other true true true true e = e
some_three text other true true true false e = e
some_three text other true true false z e = refl
some_three text other true false y z e = refl
some_three text other false x y z e = refl

parts_belong : (text : Part) (r : Bool) (parts : List Part)
    → (r && starts_with (pointwise nat_eq) parts (codes "elektra" ∷ codes "mountpoints" ∷ text ∷ []))
    ≡ is_found text (cond (r && starts_with (pointwise nat_eq) parts (codes "elektra" ∷ codes "mountpoints" ∷ [])) (slice_get parts 2) None)
parts_belong text true [] = refl
parts_belong text false [] = refl
parts_belong text r (a ∷ []) = none_two text r (pointwise nat_eq (codes "elektra") a)
parts_belong text r (a ∷ b ∷ []) =
    none_three text r (pointwise nat_eq (codes "elektra") a) (pointwise nat_eq (codes "mountpoints") b)
parts_belong text r (a ∷ b ∷ c ∷ parts) =
    some_three text c r (pointwise nat_eq (codes "elektra") a) (pointwise nat_eq (codes "mountpoints") b) (pointwise nat_eq text c) (texts_ties text c)

-- a name is an entry's or below it where it has the entry's text
pub at_or_below-entry : (text : Part) (name : Name)
    → is_at_or_below (entry_name text) name ≡ is_found text (text_of_entry name)
at_or_below-entry text name = parts_belong text (nat_eq (rank name.namespace) (rank System)) name.parts

-- a name belongs to the entry of its text
pub own-entry : (text : Part) (name : Name) → Some text ≡ text_of_entry name
    → is_at_or_below (entry_name text) name ≡ true
own-entry text name is = at_or_below-entry text name ∙ ap (is_found text) (sym is) ∙ itself nat_list_cmp_total text

-- a name with no third part belongs to none
pub short-entry : (name : Name) → length name.parts < 3 → None ≡ text_of_entry name
short-entry name few = by (is_at_or_below mountpoints name) (slice_get_past name.parts 2 (omega (arith, few)))
  where
    by : (b : Bool) → slice_get name.parts 2 ≡ None → None ≡ cond b (slice_get name.parts 2) None
    by true none = sym none
    by false none = refl
