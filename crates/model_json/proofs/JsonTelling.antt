-- Bytes have a reading or none, and a key can be held or not.
use Rattle.std.specs.Prelude.{◌≡◌, ℕ, ◌+◌, ◌≤◌, Bool, true, false, T, List, [], ◌∷◌, ◌++◌, length, map, Option, None, Some}
use Rattle.std.proofs.Common.{refl, sym, ap, subst, ◌∙◌, inl, inr}
use Rattle.std.specs.FinMap as finite
use Rattle.std.specs.FinMap.{is_sorted}
use Rattle.std.specs.List.{AllByRecursion}
use Rattle.std.specs.Str.{IsUtf8}
use Rattle.general_words.specs.Texts.{text_cmp}
use Rattle.general_words.proofs.Lists.{some_is, none_is_no_some, all_map}
use Rattle.general_words.proofs.Tests.{true_is}
use Rattle.model_names.specs.ArrayPart.{is_array_like, array_part}
use Rattle.model_names.specs.Name.{Part, Name}
use Rattle.model_names.specs.Order.{name_cmp}
use Rattle.model_names.specs.WellFormed.{IsName}
use Rattle.model_maps.specs.Entry.{Entry, IsValue}
use Rattle.model_maps.specs.KeyMap.{KeyMap, weight, heaviest_map}
use Rattle.model_maps.specs.Limits.{IsLimitedMeta, IsLimitedKey, IsLimited}
use Rattle.model_formats.proofs.HoldingLemmas.{EachHas-entries}
use Rattle.model_lines.proofs.AllLemmas.{all-weaker}
use Rattle.model_lines.proofs.Telling.{IsTold, le-told, some-told, texts-told, utf8-told, value-told, both-told, either-told, all-told, name-told, meta-told}
use Rattle.serde_json.specs.Data.{Data, null, boolean, number, string, array, object, Items, no_items, item, Members, no_members, member}
use Rattle.serde_json.specs.Read.{read}
use Rattle.model_json.specs.Leaves.{Leaf, leaves}
use Rattle.model_json.specs.Tree.{members_in, tree_of, AreNames, AreItems, IsText, child, Fits}
use Rattle.model_json.specs.Keys.{most_parts, begins_as_item, IsJsonKey}
use Rattle.model_json.specs.Reading.{name_at, key_of, AreNamed, ItemsNamed, MembersNamed, ReadsObject}
use Rattle.model_json.proofs.KeyLeaves.{each-entry}

-- ---- the limits of a file

all-unmap : {A B : Type 0} (P : B → Type 0) (f : A → B) (xs : List A) → AllByRecursion P (map f xs)
    → AllByRecursion (λ x. P (f x)) xs
all-unmap P f [] h = tt
all-unmap P f (x ∷ xs) h = (h.0, all-unmap P f xs h.1)

-- a leaf's key is within them
abbrev pub IsLimitedLeaf : Leaf → Type 0
IsLimitedLeaf leaf = IsName (key_of leaf).0 × IsValue leaf.1

no-meta : (name text : List ℕ) → finite.get (finite.empty {X = List ℕ} {R = text_cmp}) name ≡ Some text
    → IsLimitedMeta name text
no-meta name text found = absurd (none_is_no_some text (sym (finite.get-empty text_cmp name) ∙ found))

limited-key : (leaf : Leaf) → IsLimitedLeaf leaf → IsLimitedKey (key_of leaf).0 (key_of leaf).1
limited-key leaf is = record { is_name = is.0; cascading = refl; is_value = is.1; each_meta = no-meta }

pub limited-leaves : (found : List Leaf) (keys : KeyMap) → finite.entries keys ≡ map key_of found → IsLimited keys
    → AllByRecursion IsLimitedLeaf found
limited-leaves found keys all limited =
    let P : Name × Entry → Type 0 = λ key. IsLimitedKey key.0 key.1 in
    all-weaker (λ (leaf : Leaf). P (key_of leaf)) IsLimitedLeaf (λ leaf is. (is.is_name, is.is_value)) found
    (all-unmap P key_of found (subst (AllByRecursion P) all (each-entry IsLimitedKey keys limited.each)))

pub limited-keys : (found : List Leaf) (keys : KeyMap) → finite.entries keys ≡ map key_of found
    → AllByRecursion IsLimitedLeaf found → weight keys ≤ heaviest_map → IsLimited keys
limited-keys found keys all each light =
    let P : Name × Entry → Type 0 = λ key. IsLimitedKey key.0 key.1 in
    record {
      each = EachHas-entries IsLimitedKey keys (subst (AllByRecursion P) (sym all) (all_map P key_of found (all-weaker IsLimitedLeaf (λ (leaf : Leaf). P (key_of leaf)) limited-key found each)));
      light = light;
    }

limited-told : (found : List Leaf) (keys : KeyMap) → finite.entries keys ≡ map key_of found → IsTold (IsLimited keys)
limited-told found keys all =
    elim (both-told (all-told IsLimitedLeaf (λ leaf. both-told (name-told (key_of leaf).0) (value-told leaf.1)) found) (le-told (weight keys) heaviest_map)) [
      | inl h ↦ inl (limited-keys found keys all h.0 h.1)
      | inr bad ↦ inr (λ l. bad (limited-leaves found keys all l, l.light))
    ]

-- ---- readings

three-told : {P Q R : Type 0} → IsTold P → IsTold Q → IsTold R → IsTold (P × Q × R)
three-told (inl p) (inl q) (inl r) = inl (p, q, r)
three-told (inl p) (inl q) (inr bad) = inr (λ h. bad h.2)
three-told (inl p) (inr bad) r = inr (λ h. bad h.1)
three-told (inr bad) q r = inr (λ h. bad h.0)

-- bytes read as an object's map
abbrev pub HasMap : List ℕ → Type 0
HasMap bytes = (keys : KeyMap) × ReadsObject bytes keys

pub object-is : (ms other : Members) → object ms ≡ object other → ms ≡ other
object-is ms other e = cc

found-once : (bytes : List ℕ) (keys : KeyMap) (ms : Members) (found : List Leaf) → read bytes ≡ Some (object ms)
    → leaves (object ms) ≡ Some found → (r : ReadsObject bytes keys) → r.found ≡ found
found-once bytes keys ms found is are r =
    let same : r.members ≡ ms = object-is r.members ms (some_is (object r.members) (object ms) (sym r.is_object ∙ is)) in
    some_is r.found found (sym r.are_leaves ∙ ap (λ m. leaves (object m)) same ∙ are)

pub readings-once : (bytes : List ℕ) (keys other : KeyMap) → ReadsObject bytes keys → ReadsObject bytes other
    → keys ≡ other
readings-once bytes keys other p q =
    finite.same_entries_map keys other (p.all ∙ ap (map key_of) (found-once bytes keys q.members q.found q.is_object q.are_leaves p) ∙ sym q.all)

leaves-told : (bytes : List ℕ) (ms : Members) (found : List Leaf) → IsUtf8 bytes → read bytes ≡ Some (object ms)
    → leaves (object ms) ≡ Some found → AreNamed [] (object ms) → IsTold (HasMap bytes)
leaves-told bytes ms found utf8 is are named = by (is_sorted name_cmp (map key_of found)) refl
  where
    once : (r : HasMap bytes) → r.1.found ≡ found
    once r = found-once bytes r.0 ms found is are r.1

    by : (b : Bool) → is_sorted name_cmp (map key_of found) ≡ b → IsTold (HasMap bytes)
    by false e =
        inr (λ r. subst T (ap (is_sorted name_cmp) (r.1.all ∙ ap (map key_of) (once r)) ∙ e) (finite.entries_sorted r.0))
    by true e =
        let keys : KeyMap = finite.from_sorted (map key_of found) in
        let all : finite.entries keys ≡ map key_of found = finite.entries-from_sorted name_cmp (map key_of found) (true_is (is_sorted name_cmp (map key_of found)) e) in
        elim (both-told (all-told (λ (leaf : Leaf). length leaf.0 ≤ most_parts) (λ leaf. le-told (length leaf.0) most_parts) found) (limited-told found keys all)) [
          | inl h ↦ inl (keys, record { members = ms; found = found; utf8 = utf8; is_object = is; are_leaves = are; are_named = named; few_parts = h.0; all = all; limited = h.1 })
          | inr bad ↦ inr (λ r.
              let same : r.0 ≡ keys = finite.same_entries_map r.0 keys (r.1.all ∙ ap (map key_of) (once r) ∙ sym all) in
              bad (subst (AllByRecursion (λ (leaf : Leaf). length leaf.0 ≤ most_parts)) (once r) r.1.few_parts, subst IsLimited same r.1.limited))
        ]

mutual
  value-named-told : (before : List Part) (d : Data) → IsTold (AreNamed before d)
  value-named-told before null = inl tt
  value-named-told before (boolean b) = inl tt
  value-named-told before (number n) = inl tt
  value-named-told before (string s) = inl tt
  value-named-told before (array ds) = items-named-told before 0 ds
  value-named-told before (object ms) = members-named-told before ms

  items-named-told : (before : List Part) (index : ℕ) (ds : Items) → IsTold (ItemsNamed before index ds)
  items-named-told before index no_items = inl tt
  items-named-told before index (item d ds) =
      three-told (name-told (name_at (before ++ array_part index ∷ []))) (value-named-told (before ++ array_part index ∷ []) d) (items-named-told before (index + 1) ds)

  members-named-told : (before : List Part) (ms : Members) → IsTold (MembersNamed before ms)
  members-named-told before no_members = inl tt
  members-named-told before (member name d ms) =
      three-told (name-told (name_at (before ++ name ∷ []))) (value-named-told (before ++ name ∷ []) d) (members-named-told before ms)

object-told : (bytes : List ℕ) (ms : Members) → IsUtf8 bytes → read bytes ≡ Some (object ms) → IsTold (HasMap bytes)
object-told bytes ms utf8 is = by (leaves (object ms)) refl
  where
    by : (o : Option (List Leaf)) → leaves (object ms) ≡ o → IsTold (HasMap bytes)
    by (Some found) e = elim (value-named-told [] (object ms)) [
      | inl named ↦ leaves-told bytes ms found utf8 is e named
      | inr unnamed ↦ inr (λ r. unnamed (subst (AreNamed []) (some_is (object r.1.members) (object ms) (sym r.1.is_object ∙ is)) r.1.are_named))
    ]
    by None e = inr (λ r.
        let same : object r.1.members ≡ object ms = some_is (object r.1.members) (object ms) (sym r.1.is_object ∙ is) in
        none_is_no_some r.1.found (sym e ∙ ap leaves (sym same) ∙ r.1.are_leaves))

value-told-by : (bytes : List ℕ) (d : Data) → IsUtf8 bytes → read bytes ≡ Some d → IsTold (HasMap bytes)
value-told-by bytes null utf8 is =
    inr (λ r. let clash = some_is null (object r.1.members) (sym is ∙ r.1.is_object) in absurd cc)
value-told-by bytes (boolean b) utf8 is =
    inr (λ r. let clash = some_is (boolean b) (object r.1.members) (sym is ∙ r.1.is_object) in absurd cc)
value-told-by bytes (number n) utf8 is =
    inr (λ r. let clash = some_is (number n) (object r.1.members) (sym is ∙ r.1.is_object) in absurd cc)
value-told-by bytes (string s) utf8 is =
    inr (λ r. let clash = some_is (string s) (object r.1.members) (sym is ∙ r.1.is_object) in absurd cc)
value-told-by bytes (array ds) utf8 is =
    inr (λ r. let clash = some_is (array ds) (object r.1.members) (sym is ∙ r.1.is_object) in absurd cc)
value-told-by bytes (object ms) utf8 is = object-told bytes ms utf8 is

pub map-told : (bytes : List ℕ) → IsTold (HasMap bytes)
map-told bytes = elim (utf8-told bytes) [
  | inl utf8 ↦ by utf8 (read bytes) refl
  | inr bad ↦ inr (λ r. bad r.1.utf8)
]
  where
    by : IsUtf8 bytes → (o : Option Data) → read bytes ≡ o → IsTold (HasMap bytes)
    by utf8 (Some d) e = value-told-by bytes d utf8 e
    by utf8 None e = inr (λ r. none_is_no_some (object r.1.members) (sym e ∙ r.1.is_object))

-- ---- keys

names-told : (ms : Members) → IsTold (AreNames ms)
names-told no_members = inl tt
names-told (member name d ms) = both-told (false-told (is_array_like name)) (names-told ms)
  where
    false-told : (b : Bool) → IsTold (b ≡ false)
    false-told false = inl refl
    false-told true = inr (λ e. absurd cc)

items-told : (index : ℕ) (ms : Members) → IsTold (AreItems index ms)
items-told index no_members = inl tt
items-told index (member name d ms) = both-told (texts-told name (array_part index)) (items-told (index + 1) ms)

text-told : (d : Data) → IsTold (IsText d)
text-told null = inr (λ h. h)
text-told (boolean b) = inr (λ h. h)
text-told (number n) = inr (λ h. h)
text-told (string s) = inl tt
text-told (array ds) = inr (λ h. h)
text-told (object ms) = inr (λ h. h)

fits-told : (parts : List Part) (d : Data) → IsTold (Fits parts d)
fits-told [] d = text-told d
fits-told (part ∷ parts) d =
    both-told (either-told (names-told (members_in d)) (items-told 0 (members_in d))) (fits-told parts (child part d))

member-told : (b : Bool) → IsTold (b ≡ false)
member-told false = inl refl
member-told true = inr (λ e. absurd cc)

pub json_key-told : (keys : KeyMap) (name : Name) (entry : Entry) → IsTold (IsJsonKey keys name entry)
json_key-told keys name entry =
    elim (both-told (meta-told entry.meta finite.empty) (both-told (some-told name.parts) (both-told (le-told (length name.parts) most_parts) (both-told (member-told (begins_as_item name.parts)) (fits-told name.parts (tree_of keys)))))) [
      | inl h ↦ inl (record { no_meta = h.0; some_part = h.1.0; few_parts = h.1.1.0; is_member = h.1.1.1.0; fits = h.1.1.1.1 })
      | inr bad ↦ inr (λ k. bad (k.no_meta, (k.some_part, (k.few_parts, (k.is_member, k.fits)))))
    ]
