-- A text joins the keys where it stands behind them and is within the limits with them.
use Rattle.std.specs.Prelude.{◌≡◌, ℕ, ◌+◌, ◌≤◌, T, true, false, List, [], ◌∷◌, ◌++◌, length, map, sum_by}
use Rattle.std.proofs.Common.{refl, sym, ap, subst, ◌∙◌, arith}
use Rattle.std.specs.FinMap as finite
use Rattle.std.specs.FinMap.{is_sorted}
use Rattle.std.specs.FinMap.Entries.{put, by_order}
use Rattle.std.specs.List.{AllByRecursion}
use Rattle.std.specs.Ordering.{ordering_reverse}
use Rattle.std.specs.declared.cmp.Ordering.TheVariants.{Less, Greater}
use Rattle.std.specs.Str.{IsUtf8}
use Rattle.std.proofs.lemmas.List.Sums.{sum_by-cons, sum_by-append}
use Rattle.general_words.proofs.Lists.{all_append, all_back}
use Rattle.general_words.proofs.Maps.{entries-empty}
use Rattle.model_names.specs.declared.namespaces.Namespace.TheVariants.{Cascading}
use Rattle.model_names.specs.Name.{Name}
use Rattle.model_names.specs.Order.{name_cmp}
use Rattle.model_names.specs.WellFormed.{IsName}
use Rattle.model_names.proofs.OrderLemmas.{name_cmp_total}
use Rattle.model_maps.specs.Entry.{Entry, plain_entry, longest_value}
use Rattle.model_maps.specs.KeyMap.{KeyMap, no_keys, weight, weight_of_key, heaviest_map}
use Rattle.model_maps.proofs.MapLemmas.{weight-no_keys}
use Rattle.model_lines.proofs.SortedKeys.{before_all}
use Rattle.model_json.specs.Leaves.{Leaf}
use Rattle.model_json.specs.Tree.{leaf_of}
use Rattle.model_json.specs.Keys.{most_parts}
use Rattle.model_json.specs.Reading.{key_of}
use Rattle.model_json.proofs.Lawful.{no-limits}
use Rattle.model_json.proofs.JsonTelling.{IsLimitedLeaf, limited-leaves, limited-keys}
use Rattle.json_storage.specs.Found.{Fill, leaves_in, IsSound, HasAdded}
use Rattle.json_storage.specs.Placing.{IsBehind}
use Rattle.json_storage.specs.declared.found.Found.{Found}

map-append : (xs ys : List Leaf) → map key_of (xs ++ ys) ≡ map key_of xs ++ map key_of ys
map-append [] ys = refl
map-append (leaf ∷ xs) ys = ap (λ rest. key_of leaf ∷ rest) (map-append xs ys)

map-leaves : (xs ys : List (Name × Entry)) → map leaf_of (xs ++ ys) ≡ map leaf_of xs ++ map leaf_of ys
map-leaves [] ys = refl
map-leaves (key ∷ xs) ys = ap (λ rest. leaf_of key ∷ rest) (map-leaves xs ys)

put-behind : (name : Name) (entry : Entry) (es : List (Name × Entry))
    → AllByRecursion (λ (key : Name × Entry). name_cmp key.0 name ≡ Less) es
    → put name_cmp name entry es ≡ es ++ (name, entry) ∷ []
put-behind name entry [] h = refl
put-behind name entry (key ∷ es) h =
    let greater : name_cmp name key.0 ≡ Greater = name_cmp_total.antisymm name key.0 ∙ ap ordering_reverse h.0 in
    ap (λ o. by_order o ((name, entry) ∷ key ∷ es) ((key.0, entry) ∷ es) (key ∷ put name_cmp name entry es)) greater
    ∙ ap (λ rest. key ∷ rest) (put-behind name entry es h.1)

-- the entries with one more behind them
pub entries-behind : (keys : KeyMap) (name : Name) (entry : Entry) → IsBehind name keys
    → finite.entries (finite.insert keys name entry) ≡ finite.entries keys ++ (name, entry) ∷ []
entries-behind keys name entry behind =
    finite.entries-insert name_cmp_total keys name entry ∙ put-behind name entry (finite.entries keys) behind

pub weight-behind : (keys : KeyMap) (name : Name) (entry : Entry) → IsBehind name keys
    → weight (finite.insert keys name entry) ≡ weight keys + weight_of_key name entry
weight-behind keys name entry behind =
    let f : Name × Entry → ℕ = λ key. weight_of_key key.0 key.1 in
    let all = ap (sum_by f) (entries-behind keys name entry behind) in
    omega (arith, all, sum_by-append f (finite.entries keys) ((name, entry) ∷ []), sum_by-cons f (name, entry) [])

-- ---- a text that joins

pub joins : (before after : Found) (name : Name) (text : List ℕ) → IsSound before → name.namespace ≡ Cascading
    → IsName name → IsUtf8 text → length name.parts ≤ most_parts → length text ≤ longest_value
    → IsBehind name before.keys
    → after.keys ≡ finite.insert before.keys name (plain_entry text)
    → after.weight ≡ before.weight + weight_of_key name (plain_entry text) → after.weight ≤ heaviest_map
    → HasAdded (λ added. added ≡ (name.parts, text) ∷ []) before after true
joins before after name text sound cascading is_name utf8 few short behind is weighed light =
    let leaf : Leaf = (name.parts, text) in
    let named : (name, plain_entry text) ≡ key_of leaf = λ i. (record { namespace = cascading i; parts = name.parts }, plain_entry text) in
    let entries : finite.entries after.keys ≡ finite.entries before.keys ++ (name, plain_entry text) ∷ [] = ap (λ (k : KeyMap). finite.entries k) is ∙ entries-behind before.keys name (plain_entry text) behind in
    let there : leaves_in after.keys ≡ leaves_in before.keys ++ leaf ∷ [] = ap (map leaf_of) entries ∙ map-leaves (finite.entries before.keys) ((name, plain_entry text) ∷ []) in
    let all : finite.entries after.keys ≡ map key_of (leaves_in before.keys ++ leaf ∷ []) =
    entries ∙ ap (λ es. es ++ (name, plain_entry text) ∷ []) sound.fill.all ∙ ap (λ key. map key_of (leaves_in before.keys) ++ key ∷ []) named ∙ sym (map-append (leaves_in before.keys) (leaf ∷ [])) in
    let new : weight after.keys ≡ before.weight + weight_of_key name (plain_entry text) = ap weight is ∙ weight-behind before.keys name (plain_entry text) behind ∙ ap (λ w. w + weight_of_key name (plain_entry text)) (sym sound.weighed) in
    let limited_leaf : IsLimitedLeaf leaf = (record { parts = is_name.parts; limit = is_name.limit }, record { utf8 = utf8; limit = short }) in
    let limited = limited-keys (leaves_in before.keys ++ leaf ∷ []) after.keys all
    (all_append IsLimitedLeaf (leaves_in before.keys) (leaf ∷ []) (limited-leaves (leaves_in before.keys) before.keys sound.fill.all sound.fill.limited) (limited_leaf, tt))
    (omega (arith, new, weighed, light)) in
    record {
      added = leaf ∷ [];
      adds = refl;
      joined = there;
      sound = record {
        fill = record {
          all = all ∙ ap (map key_of) (sym there);
          few = subst (AllByRecursion (λ (l : Leaf). length l.0 ≤ most_parts)) (sym there) (all_append (λ (l : Leaf). length l.0 ≤ most_parts) (leaves_in before.keys) (leaf ∷ []) sound.fill.few (few, tt));
          limited = limited;
        };
        weighed = weighed ∙ sym new;
      };
    }

-- ---- a text that can't

-- what a map has that holds the text behind the keys
record Would (before : Found) (name : Name) (text : List ℕ) (keys : KeyMap) : Type 0 where
  few : length name.parts ≤ most_parts
  short : length text ≤ longest_value
  behind : IsBehind name before.keys
  light : before.weight + weight_of_key name (plain_entry text) ≤ heaviest_map

would : (before : Found) (name : Name) (text : List ℕ) → IsSound before → name.namespace ≡ Cascading
    → (more : List Leaf) (keys : KeyMap) → Fill (leaves_in before.keys ++ (name.parts, text) ∷ more) keys
    → Would before name text keys
would before name text sound cascading more keys fill =
    let leaf : Leaf = (name.parts, text) in
    let f : Name × Entry → ℕ = λ key. weight_of_key key.0 key.1 in
    let old = finite.entries before.keys in
    let named : key_of leaf ≡ (name, plain_entry text) = λ i. (record { namespace = sym cascading i; parts = name.parts }, plain_entry text) in
    let all : finite.entries keys ≡ old ++ (name, plain_entry text) ∷ map key_of more =
    fill.all ∙ map-append (leaves_in before.keys) (leaf ∷ more) ∙ ap (λ es. es ++ map key_of (leaf ∷ more)) (sym sound.fill.all) ∙ ap (λ key. old ++ key ∷ map key_of more) named in
    let limited = all_back IsLimitedLeaf (leaves_in before.keys) (leaf ∷ more) (limited-leaves (leaves_in before.keys ++ leaf ∷ more) keys fill.all fill.limited) in
    let sum = ap (sum_by f) all in
    let weighs = sound.weighed in
    record {
      few = (all_back (λ (l : Leaf). length l.0 ≤ most_parts) (leaves_in before.keys) (leaf ∷ more) fill.few).0;
      short = limited.0.1.limit;
      behind = before_all old (name, plain_entry text) (map key_of more) (subst (λ es. T (is_sorted name_cmp es)) all (finite.entries_sorted keys));
      light = omega (arith, sum, sum_by-append f old ((name, plain_entry text) ∷ map key_of more), sum_by-cons f (name, plain_entry text) (map key_of more), fill.limited.light, weighs);
    }

pub cant : (before after : Found) (name : Name) (text : List ℕ) → IsSound before → name.namespace ≡ Cascading
    → ((few : length name.parts ≤ most_parts) → length text ≤ longest_value → IsBehind name before.keys → before.weight + weight_of_key name (plain_entry text) ≤ heaviest_map → ⊥)
    → HasAdded (λ added. added ≡ (name.parts, text) ∷ []) before after false
cant before after name text sound cascading fails = λ added more keys is fill.
    let w = would before name text sound cascading more keys (subst (λ l. Fill (leaves_in before.keys ++ (l ++ more)) keys) is fill) in
    fails w.few w.short w.behind w.light

-- no keys
pub nothing-sound : IsSound (record { keys = no_keys; weight = 0 })
nothing-sound =
    let none : finite.entries no_keys ≡ [] = entries-empty name_cmp Entry in
    record {
      fill = record {
        all = none ∙ ap (λ es. map key_of (map leaf_of es)) (sym none);
        few = subst (λ es. AllByRecursion (λ (leaf : Leaf). length leaf.0 ≤ most_parts) (map leaf_of es)) (sym none) tt;
        limited = no-limits;
      };
      weighed = sym weight-no_keys;
    }

pub nothing-there : (keys : KeyMap) → keys ≡ no_keys → leaves_in keys ≡ []
nothing-there keys is = ap leaves_in is ∙ ap (map leaf_of) (entries-empty name_cmp Entry)
