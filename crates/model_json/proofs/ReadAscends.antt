-- The leaves of a value that was read stand in name order.
use Rattle.std.specs.Prelude.{◌≡◌, ℕ, ◌+◌, ◌<◌, ◌≤◌, T, List, [], ◌∷◌, ◌++◌, length, map, Some, option_and_then}
use Rattle.std.proofs.Common.{sym, ap, subst, ◌∙◌, arith}
use Rattle.std.specs.FinMap.{is_sorted}
use Rattle.std.specs.FinMap.Entries.{below_all}
use Rattle.std.specs.List.{AllByRecursion}
use Rattle.std.specs.Ordering.{is_lt, ordering_then}
use Rattle.std.specs.declared.cmp.Ordering.TheVariants.{Less}
use Rattle.general_words.proofs.Lists.{some_is, none_is_no_some, all_append}
use Rattle.general_words.proofs.Tests.{both}
use Rattle.model_names.specs.ArrayPart.{last_index, is_array_like, array_part}
use Rattle.model_names.specs.Name.{Part}
use Rattle.model_names.specs.Order.{name_cmp}
use Rattle.model_names.proofs.RefusesLemmas.{from_map}
use Rattle.serde_json.specs.Data.{Data, null, boolean, number, string, array, object, Items, no_items, item, Members, no_members, member}
use Rattle.model_json.specs.Leaves.{Leaf, within, one_leaf, boolean_text, integer_text, if_some, leaves, items_leaves, members_leaves}
use Rattle.model_json.specs.Reading.{key_of}
use Rattle.model_json.proofs.TreeLemmas.{path_cmp, Ascend, FirstIsLater, BeginLater, same_first}
use Rattle.model_json.proofs.Rising.{IsRising, AreRising, HaveRising}
use Rattle.model_json.proofs.PartOrder.{array_part-order}
use Rattle.model_json.proofs.ReadTrees.{gives, gives-member, some-leaves, shorter, later-within, members-later, fewer-here, fewer-more}

-- ---- one part's leaves before those of later parts

before-within : (part : Part) (parts : List Part) (found : List Leaf)
    → AllByRecursion (λ (later : Leaf). path_cmp parts later.0 ≡ Less) found
    → AllByRecursion (λ (later : Leaf). path_cmp (part ∷ parts) later.0 ≡ Less) (within part found)
before-within part parts [] h = tt
before-within part parts (leaf ∷ found) h = (same_first part parts leaf.0 ∙ h.0, before-within part parts found h.1)

before-later : (part : Part) (parts later : List Part) → FirstIsLater part later → path_cmp (part ∷ parts) later ≡ Less
before-later part parts [] h = absurd h
before-later part parts (first ∷ later) h = ap (λ o. ordering_then o (path_cmp parts later)) h

before-more : (part : Part) (parts : List Part) (found : List Leaf) → BeginLater part found
    → AllByRecursion (λ (later : Leaf). path_cmp (part ∷ parts) later.0 ≡ Less) found
before-more part parts [] h = tt
before-more part parts (leaf ∷ found) h = (before-later part parts leaf.0 h.0, before-more part parts found h.1)

ascend-join : (part : Part) (here more : List Leaf) → Ascend here → BeginLater part more → Ascend more
    → Ascend (within part here ++ more)
ascend-join part [] more ascend later rest = rest
ascend-join part (leaf ∷ here) more ascend later rest = (
  all_append (λ (other : Leaf). path_cmp (part ∷ leaf.0) other.0 ≡ Less) (within part here) more (before-within part leaf.0 here ascend.0) (before-more part leaf.0 more later),
  ascend-join part here more ascend.1 later rest,
)

-- ---- the leaves of elements begin with later parts

items-later : (index later : ℕ) (ds : Items) (found : List Leaf) → items_leaves later ds ≡ Some found → index < later
    → later + length found ≤ last_index → BeginLater (array_part index) found
items-later index later no_items found e less few = subst (BeginLater (array_part index)) (some_is [] found e) tt
items-later index later (item d ds) found e less few =
    let g = gives (array_part later) (option_and_then if_some (leaves d)) (items_leaves (later + 1) ds) found e in
    let some = some-leaves (leaves d) g.here g.of_first in
    let left = shorter (array_part later) g.here g.more found later g.all some.1 few in
    let high : later ≤ last_index = omega arith in
    subst (BeginLater (array_part index)) g.all (all_append (λ (leaf : Leaf). FirstIsLater (array_part index) leaf.0) (within (array_part later) g.here) g.more
    (later-within (array_part index) (array_part later) g.here (array_part-order index later less high))
    (items-later index (later + 1) ds g.more g.of_later (omega arith) left))

mutual
  pub value-ascends : (d : Data) (found : List Leaf) → leaves d ≡ Some found → IsRising d → length found ≤ last_index
      → Ascend found
  value-ascends null found e rises few = absurd (none_is_no_some found e)
  value-ascends (boolean b) found e rises few = subst Ascend (some_is (one_leaf (boolean_text b)) found e) (tt, tt)
  value-ascends (number n) found e rises few =
      let f = from_map one_leaf (integer_text n) found e in subst Ascend f.2 (tt, tt)
  value-ascends (string text) found e rises few = subst Ascend (some_is (one_leaf text) found e) (tt, tt)
  value-ascends (array ds) found e rises few = items-ascend 0 ds found e rises (omega arith)
  value-ascends (object ms) found e rises few = members-ascend ms found e rises few

  members-ascend : (ms : Members) (found : List Leaf) → members_leaves ms ≡ Some found → HaveRising ms
      → length found ≤ last_index → Ascend found
  members-ascend no_members found e rises few = subst Ascend (some_is [] found e) tt
  members-ascend (member name d ms) found e rises few =
      let g = (gives-member (is_array_like name) name (leaves d) (members_leaves ms) found e).1 in
      subst Ascend g.all (ascend-join name g.here g.more
      (value-ascends d g.here g.of_first rises.1 (fewer-here name g.here g.more found last_index g.all few))
      (members-later name ms g.more g.of_later rises.0)
      (members-ascend ms g.more g.of_later rises.2 (fewer-more name g.here g.more found last_index g.all few)))

  items-ascend : (index : ℕ) (ds : Items) (found : List Leaf) → items_leaves index ds ≡ Some found → AreRising ds
      → index + length found ≤ last_index → Ascend found
  items-ascend index no_items found e rises few = subst Ascend (some_is [] found e) tt
  items-ascend index (item d ds) found e rises few =
      let g = gives (array_part index) (option_and_then if_some (leaves d)) (items_leaves (index + 1) ds) found e in
      let some = some-leaves (leaves d) g.here g.of_first in
      let left = shorter (array_part index) g.here g.more found index g.all some.1 few in
      let enough : length found ≤ last_index = omega arith in
      subst Ascend g.all (ascend-join (array_part index) g.here g.more
      (value-ascends d g.here some.0 rises.0 (fewer-here (array_part index) g.here g.more found last_index g.all enough))
      (items-later index (index + 1) ds g.more g.of_later (omega arith) left)
      (items-ascend (index + 1) ds g.more g.of_later rises.1 left))

-- ---- so do their keys

below-keys : (leaf : Leaf) (found : List Leaf) → AllByRecursion (λ (later : Leaf). path_cmp leaf.0 later.0 ≡ Less) found
    → T (below_all name_cmp (key_of leaf).0 (map key_of found))
below-keys leaf [] h = tt
below-keys leaf (next ∷ found) h =
    both (is_lt (name_cmp (key_of leaf).0 (key_of next).0)) (below_all name_cmp (key_of leaf).0 (map key_of found)) (subst (λ o. T (is_lt o)) (sym h.0) tt) (below-keys leaf found h.1)

pub keys-sorted : (found : List Leaf) → Ascend found → T (is_sorted name_cmp (map key_of found))
keys-sorted [] h = tt
keys-sorted (leaf ∷ found) h =
    both (below_all name_cmp (key_of leaf).0 (map key_of found)) (is_sorted name_cmp (map key_of found)) (below-keys leaf found h.0) (keys-sorted found h.1)
