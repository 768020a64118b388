-- The keys of a map as leaves: in name order, and back.
use Rattle.std.specs.Prelude.{◌≡◌, ◌≤◌, T, List, [], ◌∷◌, ◌++◌, length, map, sum_by}
use Rattle.std.proofs.Common.{refl, sym, ap, ◌∙◌, arith, append_assoc}
use Rattle.std.specs.FinMap as finite
use Rattle.std.specs.FinMap.{is_sorted}
use Rattle.std.specs.FinMap.Entries.{below_all}
use Rattle.std.specs.List.{AllByRecursion}
use Rattle.std.specs.Ordering.{is_lt}
use Rattle.std.specs.declared.cmp.Ordering.TheVariants.{Less}
use Rattle.std.proofs.lemmas.List.Sums.{sum_by-cons}
use Rattle.general_words.proofs.Tests.{first, second}
use Rattle.general_words.proofs.Orders.{less}
use Rattle.model_names.specs.declared.namespaces.Namespace.TheVariants.{Cascading}
use Rattle.model_names.specs.Name.{Name}
use Rattle.model_names.specs.Order.{name_cmp}
use Rattle.model_maps.specs.Entry.{Entry}
use Rattle.model_maps.specs.KeyMap.{KeyMap, weight_of_key}
use Rattle.model_formats.specs.Holding.{EachHas}
use Rattle.model_formats.proofs.HoldingLemmas.{get-there}
use Rattle.model_json.specs.Leaves.{Leaf}
use Rattle.model_json.specs.Tree.{leaf_of}
use Rattle.model_json.specs.Reading.{key_of}
use Rattle.model_json.proofs.TreeLemmas.{path_cmp, Ascend}

-- what each key of a map has, each of its entries has
all-behind : (Has : Name → Entry → Type 0) (keys : KeyMap) → EachHas Has keys → (front es : List (Name × Entry))
    → finite.entries keys ≡ front ++ es → AllByRecursion (λ (key : Name × Entry). Has key.0 key.1) es
all-behind Has keys each front [] all = tt
all-behind Has keys each front (key ∷ es) all =
    (each key.0 key.1 (get-there keys front key.0 key.1 es all), all-behind Has keys each (front ++ key ∷ []) es (all ∙ sym (append_assoc front (key ∷ []) es)))

pub each-entry : (Has : Name → Entry → Type 0) (keys : KeyMap) → EachHas Has keys
    → AllByRecursion (λ (key : Name × Entry). Has key.0 key.1) (finite.entries keys)
each-entry Has keys each = all-behind Has keys each [] (finite.entries keys) refl

-- keys without a namespace of their own, and with a value alone
abbrev pub IsPlain : Name × Entry → Type 0
IsPlain key = (key.0.namespace ≡ Cascading) × (key.1.meta ≡ finite.empty)

pub plain-keys : (es : List (Name × Entry)) → AllByRecursion IsPlain es → es ≡ map key_of (map leaf_of es)
plain-keys [] plain = refl
plain-keys (key ∷ es) plain =
    λ i. (record { namespace = plain.0.0 i; parts = key.0.parts }, record { value = key.1.value; meta = plain.0.1 i }) ∷ plain-keys es plain.1 i

pub leaves-of : (found : List Leaf) → map leaf_of (map key_of found) ≡ found
leaves-of [] = refl
leaves-of (leaf ∷ found) = ap (λ more. leaf ∷ more) (leaves-of found)

-- ---- name order

by-parts : (a b : Name) → a.namespace ≡ Cascading → b.namespace ≡ Cascading → name_cmp a b ≡ path_cmp a.parts b.parts
by-parts a b p q =
    λ i. name_cmp (record { namespace = p i; parts = a.parts }) (record { namespace = q i; parts = b.parts })

below-leaves : (key : Name × Entry) (es : List (Name × Entry)) → IsPlain key → AllByRecursion IsPlain es
    → T (below_all name_cmp key.0 es)
    → AllByRecursion (λ (later : Leaf). path_cmp key.0.parts later.0 ≡ Less) (map leaf_of es)
below-leaves key [] plain all h = tt
below-leaves key (next ∷ es) plain all h =
    (sym (by-parts key.0 next.0 plain.0 all.0.0) ∙ less (name_cmp key.0 next.0) (first (is_lt (name_cmp key.0 next.0)) (below_all name_cmp key.0 es) h), below-leaves key es plain all.1 (second (is_lt (name_cmp key.0 next.0)) (below_all name_cmp key.0 es) h))

pub sorted-ascend : (es : List (Name × Entry)) → AllByRecursion IsPlain es → T (is_sorted name_cmp es)
    → Ascend (map leaf_of es)
sorted-ascend [] plain h = tt
sorted-ascend (key ∷ es) plain h =
    (below-leaves key es plain.0 plain.1 (first (below_all name_cmp key.0 es) (is_sorted name_cmp es) h), sorted-ascend es plain.1 (second (below_all name_cmp key.0 es) (is_sorted name_cmp es) h))

-- ---- how many keys a map can have

pub many-weigh : (es : List (Name × Entry)) → length es ≤ sum_by (λ (key : Name × Entry). weight_of_key key.0 key.1) es
many-weigh [] = omega arith
many-weigh (key ∷ es) =
    omega (arith, sum_by-cons (λ (key : Name × Entry). weight_of_key key.0 key.1) key es, many-weigh es)
