-- The text of a map that can be stored reads as that map.
use Rattle.std.specs.Prelude.{◌≡◌, ◌≢◌, ℕ, ◌≤◌, Bool, true, false, List, [], ◌∷◌, length, map, Some}
use Rattle.std.proofs.Common.{refl, sym, ap, subst, ◌∙◌, cond, arith, inr}
use Rattle.std.specs.FinMap as finite
use Rattle.std.specs.List.{AllByRecursion}
use Rattle.std.specs.Str.{IsUtf8}
use Rattle.std.proofs.lemmas.Bool.{cond-false}
use Rattle.general_words.specs.Texts.{is_text}
use Rattle.general_words.proofs.Lists.{all_map}
use Rattle.model_names.specs.ArrayPart.{is_array_like}
use Rattle.model_names.specs.Name.{Part, Name}
use Rattle.model_names.specs.WellFormed.{IsPart, IsName}
use Rattle.model_maps.specs.Entry.{Entry}
use Rattle.model_maps.specs.KeyMap.{KeyMap}
use Rattle.model_maps.specs.Limits.{IsLimited}
use Rattle.model_lines.proofs.AllLemmas.{all-weaker}
use Rattle.serde_json.specs.Data.{Data, array, object, Members, no_members, member, depth}
use Rattle.serde_json.specs.Read.{max_depth}
use Rattle.model_json.specs.Leaves.{Leaf, leaves}
use Rattle.model_json.specs.Tree.{empty, members_in, into, with_leaf, leaf_of, tree, tree_of, Fits}
use Rattle.model_json.specs.Keys.{most_parts, begins_as_item, IsStorable}
use Rattle.model_json.specs.Reading.{name_at, AreNamed, Reads}
use Rattle.model_json.specs.Text.{begin_as_items, with_arrays, elements, members_with_arrays, text}
use Rattle.model_json.proofs.TreeLemmas.{Ascend}
use Rattle.model_json.proofs.TreeReads.{value-leaves}
use Rattle.model_json.proofs.TreeWritten.{IsUtf8Leaf, value-written, arrays-written, arrays-depth, tree-depth}
use Rattle.model_json.proofs.NamedTree.{value-named}
use Rattle.model_json.proofs.TextTokens.{IsWritten, text-is-read, text-is-utf8}
use Rattle.model_json.proofs.KeyLeaves.{each-entry, IsPlain, plain-keys, sorted-ascend}

-- what a key of a map that can be stored has, within the limits of a file
record IsKept (whole : Data) (key : Name × Entry) : Type 0 where
  plain : IsPlain key
  some_part : key.0.parts ≢ []
  few : length key.0.parts ≤ most_parts
  is_member : begins_as_item key.0.parts ≡ false
  fits : Fits key.0.parts whole
  utf8 : IsUtf8Leaf (leaf_of key)
  is_name : IsName (name_at key.0.parts)

kept : (keys : KeyMap) → IsLimited keys → IsStorable keys → AllByRecursion (IsKept (tree_of keys)) (finite.entries keys)
kept keys limited storable = each-entry (λ name entry. IsKept (tree_of keys) (name, entry)) keys (λ name entry found.
    let l = limited.each name entry found in
    let s = storable name entry found in
    record {
      plain = (l.cascading, s.no_meta);
      some_part = s.some_part;
      few = s.few_parts;
      is_member = s.is_member;
      fits = s.fits;
      utf8 = (all-weaker IsPart IsUtf8 (λ part is. is.utf8) name.parts l.is_name.parts, l.is_value.utf8);
      is_name = record { parts = l.is_name.parts; limit = l.is_name.limit };
    })

-- ---- the whole is an object

into-begins : (part : Part) (change : Data → Data) (ms : Members)
    → begin_as_items (into part change ms) ≡ is_array_like part
into-begins part change no_members = refl
into-begins part change (member name d ms) = by (is_text part name)
  where
    by : (b : Bool)
        → begin_as_items (cond b (member part (change d) ms) (member part (change empty) (member name d ms)))
        ≡ is_array_like part
    by true = refl
    by false = refl

leaf-object : (parts : List Part) (text : List ℕ) (d : Data) → parts ≢ [] → begins_as_item parts ≡ false
    → (ms : Members) × (with_arrays (with_leaf parts text d) ≡ object ms)
leaf-object [] value d some named = absurd (some refl)
leaf-object (part ∷ parts) value d some named =
    let ms = into part (with_leaf parts value) (members_in d) in
    (members_with_arrays ms, cond-false (begin_as_items ms) (array (elements ms)) (object (members_with_arrays ms)) (into-begins part (with_leaf parts value) (members_in d) ∙ named))

tree-object : (whole : Data) (es : List (Name × Entry)) → AllByRecursion (IsKept whole) es
    → (ms : Members) × (with_arrays (tree (map leaf_of es)) ≡ object ms)
tree-object whole [] all = (no_members, refl)
tree-object whole (key ∷ es) all =
    leaf-object key.0.parts key.1.value (tree (map leaf_of es)) all.0.some_part all.0.is_member

-- ---- its leaves

tree-leaves : (whole : Data) (es : List (Name × Entry)) → AllByRecursion (IsKept whole) es
    → tree (map leaf_of es) ≡ whole → Ascend (map leaf_of es)
    → leaves (with_arrays (tree (map leaf_of es))) ≡ Some (map leaf_of es)
tree-leaves whole [] all is ascend = refl
tree-leaves whole (key ∷ es) all is ascend =
    let found = map leaf_of (key ∷ es) in
    value-leaves (tree found) found refl (λ e. absurd cc) ascend
    (subst (λ d. AllByRecursion (λ (leaf : Leaf). Fits leaf.0 d) found) (sym is)
    (all_map (λ (leaf : Leaf). Fits leaf.0 whole) leaf_of (key ∷ es) (all-weaker (IsKept whole) (λ (k : Name × Entry). Fits k.0.parts whole) (λ k is_kept. is_kept.fits) (key ∷ es) all)))

tree-written : (whole : Data) (es : List (Name × Entry)) → AllByRecursion (IsKept whole) es
    → tree (map leaf_of es) ≡ whole → Ascend (map leaf_of es) → IsWritten (with_arrays (tree (map leaf_of es)))
tree-written whole [] all is ascend = tt
tree-written whole (key ∷ es) all is ascend =
    let found = map leaf_of (key ∷ es) in
    arrays-written (tree found) (value-written (tree found) found refl (λ e. absurd cc) ascend
    (subst (λ d. AllByRecursion (λ (leaf : Leaf). Fits leaf.0 d) found) (sym is)
    (all_map (λ (leaf : Leaf). Fits leaf.0 whole) leaf_of (key ∷ es) (all-weaker (IsKept whole) (λ (k : Name × Entry). Fits k.0.parts whole) (λ k is_kept. is_kept.fits) (key ∷ es) all)))
    (all_map IsUtf8Leaf leaf_of (key ∷ es) (all-weaker (IsKept whole) (λ (k : Name × Entry). IsUtf8Leaf (leaf_of k)) (λ k is_kept. is_kept.utf8) (key ∷ es) all)))

tree-named : (whole : Data) (es : List (Name × Entry)) → AllByRecursion (IsKept whole) es
    → tree (map leaf_of es) ≡ whole → Ascend (map leaf_of es) → AreNamed [] (with_arrays (tree (map leaf_of es)))
tree-named whole [] all is ascend = tt
tree-named whole (key ∷ es) all is ascend =
    let found = map leaf_of (key ∷ es) in
    value-named [] (tree found) found refl (λ e. absurd cc) ascend
    (subst (λ d. AllByRecursion (λ (leaf : Leaf). Fits leaf.0 d) found) (sym is)
    (all_map (λ (leaf : Leaf). Fits leaf.0 whole) leaf_of (key ∷ es) (all-weaker (IsKept whole) (λ (k : Name × Entry). Fits k.0.parts whole) (λ k is_kept. is_kept.fits) (key ∷ es) all)))
    (all_map (λ (leaf : Leaf). IsName (name_at leaf.0)) leaf_of (key ∷ es) (all-weaker (IsKept whole) (λ (k : Name × Entry). IsName (name_at k.0.parts)) (λ k is_kept. is_kept.is_name) (key ∷ es) all))

pub text-reads : (keys : KeyMap) → IsLimited keys → IsStorable keys → Reads (text keys) keys
text-reads keys limited storable =
    let es = finite.entries keys in
    let found = map leaf_of es in
    let whole = tree_of keys in
    let all = kept keys limited storable in
    let plain = all-weaker (IsKept whole) IsPlain (λ k is_kept. is_kept.plain) es all in
    let ascend = sorted-ascend es plain (finite.entries_sorted keys) in
    let is_object = tree-object whole es all in
    let written = tree-written whole es all refl ascend in
    let few = all_map (λ (leaf : Leaf). length leaf.0 ≤ most_parts) leaf_of es (all-weaker (IsKept whole) (λ (k : Name × Entry). length k.0.parts ≤ most_parts) (λ k is_kept. is_kept.few) es all) in
    let flat = tree-depth found most_parts (omega arith) few in
    let shallow : depth (with_arrays whole) ≤ max_depth = subst (λ n. n ≤ max_depth) (sym (arrays-depth whole)) (omega (arith, flat)) in
    inr (record {
      members = is_object.0;
      found = found;
      utf8 = text-is-utf8 (with_arrays whole) written;
      is_object = text-is-read (with_arrays whole) written shallow ∙ ap Some is_object.1;
      are_leaves = ap leaves (sym is_object.1) ∙ tree-leaves whole es all refl ascend;
      are_named = subst (AreNamed []) is_object.1 (tree-named whole es all refl ascend);
      few_parts = few;
      all = plain-keys es plain;
      limited = limited;
    })
