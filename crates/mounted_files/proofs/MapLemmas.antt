-- What stands in a finite map is found in it, and a property of its entries lasts where one more is inserted.
use Rattle.std.proofs.Common.{◌≡◌, ℕ, ◌+◌, Bool, true, false, cond, not, List, [], ◌∷◌, length, slice_get, Some, refl, sym, ap, ◌∙◌, arith}
use Rattle.std.specs.FinMap as map
use Rattle.std.specs.FinMap.Entries.{where_key}
use Rattle.std.specs.List.{AllByRecursion}
use Rattle.std.proofs.lemmas.List.{nil_from_length}
use Rattle.model_names.specs.Name.{Name}
use Rattle.model_names.specs.Order.{name_cmp}
use Rattle.model_names.proofs.OrderLemmas.{name_cmp_total, name_cmp-IsAntisymmetric}
use Rattle.model_maps.specs.Entry.{Entry}
use Rattle.model_maps.specs.KeyMap.{KeyMap, no_keys}
use Rattle.key_set.specs.WithAll.{with_keys}
use Rattle.general_words.proofs.Maps.{entries-empty, entries-retain, get-at, each-insert}
use Rattle.general_words.proofs.Lists.{all_from_places}
use Rattle.set_split.proofs.SplitLemmas.{both}

-- an entry that stands at a place among keys is found
pub key-at : (keys : KeyMap) (i : ℕ) (e : Name × Entry) → Some e ≡ slice_get (map.entries keys) i
    → map.get keys e.0 ≡ Some e.1
key-at keys i e there = get-at name_cmp_total keys i e there

-- what holds of each key holds with one more
pub each-key-insert : (P : Name → Entry → Type 0) (keys : KeyMap) (name : Name) (entry : Entry)
    → ((q : Name) (x : Entry) → map.get keys q ≡ Some x → P q x) → P name entry → (q : Name) (x : Entry)
    → map.get (map.insert keys name entry) q ≡ Some x → P q x
each-key-insert P keys name entry each one q x found =
    each-insert name_cmp_total name_cmp-IsAntisymmetric P keys name entry each one q x found

-- what holds of each key of a list, and of each key before, holds of each key that is set
pub each-with_keys : (P : Entry → Type 0) (es : List (Name × Entry)) (keys : KeyMap) → AllByRecursion (λ e. P e.1) es
    → ((q : Name) (x : Entry) → map.get keys q ≡ Some x → P x) → (q : Name) (x : Entry)
    → map.get (with_keys es keys) q ≡ Some x → P x
each-with_keys P [] keys all each q x found = each q x found
each-with_keys P (e ∷ es) keys all each q x found =
    each-with_keys P es (map.insert keys e.0 e.1) all.1 (λ r y there. each-key-insert (λ _ (z : Entry). P z) keys e.0 e.1 each all.0 r y there) q x found

-- no key is found where there is none
pub each-none : (P : Name → Entry → Type 0) (q : Name) (x : Entry) → map.get no_keys q ≡ Some x → P q x
each-none P q x found = absurd (let none = map.get-empty {X = Entry} name_cmp q in cc)

-- what holds of each key holds of each entry in their list
pub all-entries : (P : Entry → Type 0) (keys : KeyMap) → ((q : Name) (x : Entry) → map.get keys q ≡ Some x → P x)
    → AllByRecursion (λ (e : Name × Entry). P e.1) (map.entries keys)
all-entries P keys each =
    all_from_places (λ (e : Name × Entry). P e.1) (map.entries keys) (λ i e there. each e.0 e.1 (key-at keys i e there))

-- ---- the keys that pass a test

-- where as many pass a test as there are, none fails it
pub none-fails : (keys : KeyMap) (p : Name → Bool)
    → length (map.entries (map.retain_keys keys p)) ≡ length (map.entries keys)
    → no_keys ≡ map.retain_keys keys (λ name. not (p name))
none-fails keys p all =
    let fails : Name → Bool = λ name. not (p name) in
    let passing = ap length (sym (entries-retain name_cmp_total name_cmp-IsAntisymmetric keys p)) ∙ all in
    let counted = both (λ name. true) p fails (λ name. by (p name)) (map.entries keys) in
    map.same_entries_map no_keys (map.retain_keys keys fails)
    (entries-empty name_cmp Entry ∙ sym (entries-retain name_cmp_total name_cmp-IsAntisymmetric keys fails ∙ nil_from_length (where_key name_cmp fails (map.entries keys)) (omega (arith, counted, passing, whole (map.entries keys)))))
  where
    by : (b : Bool) → 1 ≡ cond b 1 0 + cond (not b) 1 0
    by true = refl
    by false = refl

    whole : (es : List (Name × Entry)) → length (where_key name_cmp (λ name. true) es) ≡ length es
    whole [] = refl
    whole (e ∷ es) = let rest = whole es in omega (arith, rest)
