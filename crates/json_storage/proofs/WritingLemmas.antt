-- What the object of a map tells: which keys can be held, and the text of all.
use Rattle.std.specs.Prelude.{◌≡◌, ◌≢◌, ℕ, ◌≤◌, ◌&&◌, ◌||◌, ◌==◌, Bool, true, false, not, List, [], ◌∷◌, length, map, Some, slice_get}
use Rattle.std.proofs.Common.{refl, sym, ap, ap₂, subst, ◌∙◌, cond, arith, eqb-true}
use Rattle.std.specs.Bool.{Decides}
use Rattle.std.specs.FinMap as finite
use Rattle.std.specs.List.{AllByRecursion}
use Rattle.general_words.specs.Texts.{is_text, text_cmp}
use Rattle.general_words.proofs.Deciding.{said, decided_both}
use Rattle.general_words.proofs.Lists.{some_is}
use Rattle.general_words.proofs.Maps.{entries-empty}
use Rattle.model_names.specs.ArrayPart.{is_array_like}
use Rattle.model_names.specs.Name.{Part, Name}
use Rattle.model_maps.specs.Entry.{Entry, Meta}
use Rattle.model_maps.specs.KeyMap.{KeyMap}
use Rattle.serde_json.specs.Data.{Data, null, boolean, number, string, array, object, Items, Members, no_members, member}
use Rattle.serde_json.specs.Written.{has_float, items_have_float, members_have_float}
use Rattle.model_json.specs.Leaves.{Leaf}
use Rattle.model_json.specs.Tree.{empty, members_in, text_or, into, with_leaf, tree, leaf_of, tree_of, Fits}
use Rattle.model_json.specs.Keys.{most_parts, begins_as_item, IsJsonKey, IsStorable}
use Rattle.model_json.specs.Text.{begin_as_items, with_arrays, elements, members_with_arrays}
use Rattle.model_json.proofs.KeyLeaves.{each-entry}
use Rattle.json_storage.specs.Writing.{between, cut_leaf, cut_leaves}
use Rattle.json_storage.specs.Kept.{kept, HasText, CanStand}
use Rattle.json_storage.proofs.ObjectLemmas.{take-all}
use Rattle.json_storage.proofs.KeptLemmas.{kept-fits, fits-kept}
use Rattle.json_storage.proofs.CutLemmas.{cut-fits}

-- ---- which keys can be held

text-fits : (parts : List Part) (keys : KeyMap) → length parts ≤ most_parts
    → HasText parts (kept (tree (cut_leaves 0 keys))) → Fits parts (tree_of keys)
text-fits parts keys few h =
    subst (λ X. X) (cut-fits 100 parts (map leaf_of (finite.entries keys)) few) (fits-kept parts (tree (cut_leaves 0 keys)) h)

fits-text : (parts : List Part) (keys : KeyMap) → length parts ≤ most_parts → Fits parts (tree_of keys)
    → HasText parts (kept (tree (cut_leaves 0 keys)))
fits-text parts keys few h =
    kept-fits parts (tree (cut_leaves 0 keys)) (subst (λ X. X) (sym (cut-fits 100 parts (map leaf_of (finite.entries keys)) few)) h)

-- two tests tell of a key whether it can be held: by itself, and by a text at its parts
pub key-decides : (stands has : Bool) (keys : KeyMap) (name : Name) (entry : Entry) (whole : Data) (end : ℕ)
    → end ≡ length name.parts → whole ≡ kept (tree (cut_leaves 0 keys)) → Decides stands (CanStand name entry)
    → Decides has (HasText (between 0 end name.parts) whole)
    → Decides (stands && has) (IsJsonKey keys name entry)
key-decides stands has keys name entry whole end ends is p q =
    let parts_are : between 0 end name.parts ≡ name.parts = take-all name.parts end (omega (arith, ends)) in
    let r = subst (λ ps. Decides has (HasText ps whole)) parts_are q in
    said (stands && has)
    (λ h. record { no_meta = h.0.no_meta; some_part = h.0.some_part; few_parts = h.0.few_parts; is_member = h.0.is_member; fits = text-fits name.parts keys h.0.few_parts (subst (HasText name.parts) is h.1) })
    (λ k. (record { no_meta = k.no_meta; some_part = k.some_part; few_parts = k.few_parts; is_member = k.is_member }, subst (HasText name.parts) (sym is) (fits-text name.parts keys k.few_parts k.fits)))
    (decided_both stands has p r)

first-is : (parts : List Part) (part : Part) → Some part ≡ slice_get parts 0 → begins_as_item parts ≡ is_array_like part
first-is [] part is = absurd cc
first-is (first ∷ parts) part is = ap is_array_like (some_is first part (sym is))

some-parts : (parts : List Part) (part : Part) → Some part ≡ slice_get parts 0 → parts ≢ []
some-parts [] part is = absurd cc
some-parts (first ∷ parts) part is = λ e. absurd cc

not-like : (b : Bool) → not b ≡ true → b ≡ false
not-like true e = absurd cc
not-like false e = refl

like-not : (b : Bool) → b ≡ false → not b ≡ true
like-not true e = absurd cc
like-not false e = refl

pub stands-decides : (name : Name) (entry : Entry) (part : Part) (like : Bool) → like ≡ is_array_like part
    → Some part ≡ slice_get name.parts 0 → length name.parts ≤ most_parts → entry.meta ≡ finite.empty
    → Decides (not like) (CanStand name entry)
stands-decides name entry part like tells is few no_meta = (
  λ e. record { no_meta = no_meta; some_part = some-parts name.parts part is; few_parts = few; is_member = first-is name.parts part is ∙ sym tells ∙ not-like like e },
  λ h. like-not like (tells ∙ sym (first-is name.parts part is) ∙ h.is_member),
)

-- whether a key has metadata
pub meta-decides : (entry : Entry) (b : Bool) → b ≡ (length (finite.entries entry.meta) == 0)
    → Decides b (entry.meta ≡ finite.empty)
meta-decides entry b tells = (
  λ e. finite.empty_of_len entry.meta (finite.len-entries entry.meta ∙ eqb-true (length (finite.entries entry.meta)) 0 (sym tells ∙ e)),
  λ none. tells ∙ ap (λ (meta : Meta). length (finite.entries meta) == 0) none ∙ ap (λ (items : List (List ℕ × List ℕ)). length items == 0) (entries-empty text_cmp (List ℕ)),
)

-- ---- the text

few-uncut : (es : List (Name × Entry)) (keys : KeyMap)
    → AllByRecursion (λ (key : Name × Entry). IsJsonKey keys key.0 key.1) es
    → map (cut_leaf 101) (map leaf_of es) ≡ map leaf_of es
few-uncut [] keys h = refl
few-uncut (key ∷ es) keys h =
    ap₂ (λ parts (more : List Leaf). (parts, key.1.value) ∷ more) (take-all key.0.parts 101 (omega (arith, h.0.few_parts))) (few-uncut es keys h.1)

-- where all keys can be held, nothing was cut off
pub uncut : (keys : KeyMap) → IsStorable keys → tree (cut_leaves 0 keys) ≡ tree_of keys
uncut keys storable = ap tree (few-uncut (finite.entries keys) keys (each-entry (IsJsonKey keys) keys storable))

-- ---- no value is a number

both-off : (a b : Bool) → a ≡ false → b ≡ false → (a || b) ≡ false
both-off true b p q = p
both-off false b p q = q

left-off : (a b : Bool) → (a || b) ≡ false → a ≡ false
left-off true b e = e
left-off false b e = refl

right-off : (a b : Bool) → (a || b) ≡ false → b ≡ false
right-off true b e = absurd cc
right-off false b e = e

text-off : (text : List ℕ) (d : Data) → has_float d ≡ false → has_float (text_or text d) ≡ false
text-off text null e = refl
text-off text (boolean b) e = refl
text-off text (number n) e = refl
text-off text (string s) e = refl
text-off text (array ds) e = refl
text-off text (object no_members) e = refl
text-off text (object (member name d ms)) e = e

members-off : (d : Data) → has_float d ≡ false → members_have_float (members_in d) ≡ false
members-off null e = refl
members-off (boolean b) e = refl
members-off (number n) e = refl
members-off (string s) e = refl
members-off (array ds) e = refl
members-off (object ms) e = e

into-off : (part : Part) (change : Data → Data) → ((d : Data) → has_float d ≡ false → has_float (change d) ≡ false)
    → (ms : Members) → members_have_float ms ≡ false → members_have_float (into part change ms) ≡ false
into-off part change off no_members e = both-off (has_float (change empty)) false (off empty refl) refl
into-off part change off (member name d ms) e = by (is_text part name)
  where
    by : (b : Bool)
        → members_have_float (cond b (member part (change d) ms) (member part (change empty) (member name d ms)))
        ≡ false
    by true =
        both-off (has_float (change d)) (members_have_float ms) (off d (left-off (has_float d) (members_have_float ms) e)) (right-off (has_float d) (members_have_float ms) e)
    by false = both-off (has_float (change empty)) (members_have_float (member name d ms)) (off empty refl) e

leaf-off : (parts : List Part) (text : List ℕ) (d : Data) → has_float d ≡ false
    → has_float (with_leaf parts text d) ≡ false
leaf-off [] text d e = text-off text d e
leaf-off (part ∷ parts) text d e =
    into-off part (with_leaf parts text) (leaf-off parts text) (members_in d) (members-off d e)

pub tree-off : (found : List Leaf) → has_float (tree found) ≡ false
tree-off [] = refl
tree-off (leaf ∷ found) = leaf-off leaf.0 leaf.1 (tree found) (tree-off found)

either-off : (b : Bool) (ds : Items) (ms : Members) → items_have_float ds ≡ false → members_have_float ms ≡ false
    → has_float (cond b (array ds) (object ms)) ≡ false
either-off true ds ms p q = p
either-off false ds ms p q = q

mutual
  pub arrays-off : (d : Data) → has_float d ≡ false → has_float (with_arrays d) ≡ false
  arrays-off null e = e
  arrays-off (boolean b) e = e
  arrays-off (number n) e = e
  arrays-off (string text) e = e
  arrays-off (array ds) e = e
  arrays-off (object ms) e =
      either-off (begin_as_items ms) (elements ms) (members_with_arrays ms) (elements-off ms e) (names-off ms e)

  elements-off : (ms : Members) → members_have_float ms ≡ false → items_have_float (elements ms) ≡ false
  elements-off no_members e = refl
  elements-off (member name d ms) e =
      both-off (has_float (with_arrays d)) (items_have_float (elements ms)) (arrays-off d (left-off (has_float d) (members_have_float ms) e)) (elements-off ms (right-off (has_float d) (members_have_float ms) e))

  names-off : (ms : Members) → members_have_float ms ≡ false → members_have_float (members_with_arrays ms) ≡ false
  names-off no_members e = refl
  names-off (member name d ms) e =
      both-off (has_float (with_arrays d)) (members_have_float (members_with_arrays ms)) (arrays-off d (left-off (has_float d) (members_have_float ms) e)) (names-off ms (right-off (has_float d) (members_have_float ms) e))
