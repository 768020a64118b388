-- The object of leaves in name order holds texts alone, its names ascend, and it nests no deeper than they have parts.
use Rattle.std.specs.Prelude.{◌≡◌, ◌≢◌, ℕ, zero, suc, ◌≤◌, max, Bool, true, false, List, [], ◌∷◌, length}
use Rattle.std.proofs.Common.{refl, ap, ap₂, subst, cond, arith}
use Rattle.std.specs.List.{AllByRecursion}
use Rattle.std.specs.Str.{IsUtf8}
use Rattle.general_words.specs.Texts.{is_text}
use Rattle.general_words.proofs.Lists.{all_back}
use Rattle.model_names.specs.Name.{Part}
use Rattle.model_names.proofs.PartLemmas.{all_front}
use Rattle.serde_json.specs.Data.{Data, null, boolean, number, string, array, object, Items, Members, no_members, member, depth, items_depth, members_depth}
use Rattle.model_json.specs.Leaves.{Leaf, within}
use Rattle.model_json.specs.Tree.{empty, members_in, text_or, into, with_leaf, tree, Fits}
use Rattle.model_json.specs.Text.{begin_as_items, with_arrays, elements, members_with_arrays}
use Rattle.model_json.proofs.TreeLemmas.{BeginLater, Ascend}
use Rattle.model_json.proofs.TreeReads.{Goes, all-go, cut, first-fits, no-text, text-leaves}
use Rattle.model_json.proofs.TextTokens.{AllBelow, IsWritten, AreWritten, HaveWritten}

-- ---- texts, and names in order

-- the parts and the text of a leaf are UTF-8
abbrev pub IsUtf8Leaf : Leaf → Type 0
IsUtf8Leaf leaf = AllByRecursion IsUtf8 leaf.0 × IsUtf8 leaf.1

utf8-within : (part : Part) (found : List Leaf) → AllByRecursion IsUtf8Leaf (within part found)
    → AllByRecursion IsUtf8Leaf found
utf8-within part [] h = tt
utf8-within part (leaf ∷ found) h = ((h.0.0.1, h.0.1), utf8-within part found h.1)

below-members : (name : Part) (ms : Members) (found : List Leaf) → members_in (tree found) ≡ ms → Ascend found
    → AllByRecursion (λ (leaf : Leaf). Goes leaf.0 ms) found → BeginLater name found → AllBelow name ms
below-members name no_members found is ascend go later = tt
below-members name (member next d ms) found is ascend go later =
    let c = cut next d ms found is ascend go in
    let all = subst (BeginLater name) c.all later in
    (all.0, below-members name ms c.more c.of_others c.more_ascend c.go (all_back _ (within next (c.first ∷ c.here)) c.more all))

mutual
  pub value-written : (d : Data) (found : List Leaf) → tree found ≡ d → found ≢ [] → Ascend found
      → AllByRecursion (λ (leaf : Leaf). Fits leaf.0 d) found → AllByRecursion IsUtf8Leaf found → IsWritten d
  value-written null found is some ascend fit utf8 =
      let f = first-fits null found some fit in absurd (no-text null f.0 (λ h. h) (λ part. refl) f.1)
  value-written (boolean b) found is some ascend fit utf8 =
      let f = first-fits (boolean b) found some fit in absurd (no-text (boolean b) f.0 (λ h. h) (λ part. refl) f.1)
  value-written (number n) found is some ascend fit utf8 =
      let f = first-fits (number n) found some fit in absurd (no-text (number n) f.0 (λ h. h) (λ part. refl) f.1)
  value-written (string text) found is some ascend fit utf8 =
      (subst (AllByRecursion IsUtf8Leaf) (text-leaves text found is some ascend fit) utf8).0.1
  value-written (array ds) found is some ascend fit utf8 =
      let f = first-fits (array ds) found some fit in absurd (no-text (array ds) f.0 (λ h. h) (λ part. refl) f.1)
  value-written (object ms) found is some ascend fit utf8 =
      members-written ms found (ap members_in is) ascend (all-go ms found fit) utf8

  members-written : (ms : Members) (found : List Leaf) → members_in (tree found) ≡ ms → Ascend found
      → AllByRecursion (λ (leaf : Leaf). Goes leaf.0 ms) found → AllByRecursion IsUtf8Leaf found → HaveWritten ms
  members-written no_members found is ascend go utf8 = tt
  members-written (member name d ms) found is ascend go utf8 =
      let c = cut name d ms found is ascend go in
      let all = subst (AllByRecursion IsUtf8Leaf) c.all utf8 in
      let here = all_front IsUtf8Leaf (within name (c.first ∷ c.here)) c.more all in (
        here.0.0.0,
        below-members name ms c.more c.of_others c.more_ascend c.go c.later,
        value-written d (c.first ∷ c.here) c.of_first (λ e. absurd cc) c.here_ascend c.fit (utf8-within name (c.first ∷ c.here) here),
        members-written ms c.more c.of_others c.more_ascend c.go (all_back IsUtf8Leaf (within name (c.first ∷ c.here)) c.more all),
      )

-- ---- arrays change neither

below-arrays : (name : Part) (ms : Members) → AllBelow name ms → AllBelow name (members_with_arrays ms)
below-arrays name no_members h = tt
below-arrays name (member next d ms) h = (h.0, below-arrays name ms h.1)

either-written : (b : Bool) (ds : Items) (ms : Members) → AreWritten ds → HaveWritten ms
    → IsWritten (cond b (array ds) (object ms))
either-written true ds ms p q = p
either-written false ds ms p q = q

mutual
  pub arrays-written : (d : Data) → IsWritten d → IsWritten (with_arrays d)
  arrays-written null w = w
  arrays-written (boolean b) w = w
  arrays-written (number n) w = w
  arrays-written (string text) w = w
  arrays-written (array ds) w = w
  arrays-written (object ms) w =
      either-written (begin_as_items ms) (elements ms) (members_with_arrays ms) (elements-written ms w) (names-written ms w)

  elements-written : (ms : Members) → HaveWritten ms → AreWritten (elements ms)
  elements-written no_members w = tt
  elements-written (member name d ms) w = (arrays-written d w.2, elements-written ms w.3)

  names-written : (ms : Members) → HaveWritten ms → HaveWritten (members_with_arrays ms)
  names-written no_members w = tt
  names-written (member name d ms) w = (w.0, below-arrays name ms w.1, arrays-written d w.2, names-written ms w.3)

either-deep : (b : Bool) (ds : Items) (ms : Members) (n : ℕ) → items_depth ds ≡ n → members_depth ms ≡ n
    → depth (cond b (array ds) (object ms)) ≡ suc n
either-deep true ds ms n p q = ap suc p
either-deep false ds ms n p q = ap suc q

mutual
  pub arrays-depth : (d : Data) → depth (with_arrays d) ≡ depth d
  arrays-depth null = refl
  arrays-depth (boolean b) = refl
  arrays-depth (number n) = refl
  arrays-depth (string text) = refl
  arrays-depth (array ds) = refl
  arrays-depth (object ms) =
      either-deep (begin_as_items ms) (elements ms) (members_with_arrays ms) (members_depth ms) (elements-depth ms) (names-depth ms)

  elements-depth : (ms : Members) → items_depth (elements ms) ≡ members_depth ms
  elements-depth no_members = refl
  elements-depth (member name d ms) = ap₂ max (arrays-depth d) (elements-depth ms)

  names-depth : (ms : Members) → members_depth (members_with_arrays ms) ≡ members_depth ms
  names-depth no_members = refl
  names-depth (member name d ms) = ap₂ max (arrays-depth d) (names-depth ms)

-- ---- how deep the object nests

text-depth : (text : List ℕ) (d : Data) (n : ℕ) → depth d ≤ n → depth (text_or text d) ≤ n
text-depth text null n h = omega arith
text-depth text (boolean b) n h = omega arith
text-depth text (number m) n h = omega arith
text-depth text (string other) n h = omega arith
text-depth text (array ds) n h = omega arith
text-depth text (object no_members) n h = omega arith
text-depth text (object (member name d ms)) n h = h

members-depth : (d : Data) (n : ℕ) → depth d ≤ suc n → members_depth (members_in d) ≤ n
members-depth null n h = omega arith
members-depth (boolean b) n h = omega arith
members-depth (number m) n h = omega arith
members-depth (string other) n h = omega arith
members-depth (array ds) n h = omega arith
members-depth (object ms) n h = omega arith

into-depth : (part : Part) (change : Data → Data) (n : ℕ) → ((d : Data) → depth d ≤ n → depth (change d) ≤ n)
    → depth (change empty) ≤ n → (ms : Members) → members_depth ms ≤ n → members_depth (into part change ms) ≤ n
into-depth part change n keeps fresh no_members h = omega (arith, fresh)
into-depth part change n keeps fresh (member name d ms) h = by (is_text part name)
  where
    by : (b : Bool)
        → members_depth (cond b (member part (change d) ms) (member part (change empty) (member name d ms))) ≤ n
    by true = let changed : depth (change d) ≤ n = keeps d (omega arith) in omega arith
    by false = omega (arith, fresh)

fresh-depth : (parts : List Part) (text : List ℕ) → depth (with_leaf parts text empty) ≤ length parts
fresh-depth [] text = omega arith
fresh-depth (part ∷ parts) text = omega (arith, fresh-depth parts text)

leaf-depth : (parts : List Part) (text : List ℕ) (n : ℕ) → length parts ≤ n → (d : Data) → depth d ≤ n
    → depth (with_leaf parts text d) ≤ n
leaf-depth [] text n few d h = text-depth text d n h
leaf-depth (part ∷ parts) text zero few d h = absurd (omega arith)
leaf-depth (part ∷ parts) text (suc n) few d h =
    let short : length parts ≤ n = omega arith in
    let fresh : depth (with_leaf parts text empty) ≤ n = omega (arith, fresh-depth parts text) in
    let within : members_depth (into part (with_leaf parts text) (members_in d)) ≤ n = into-depth part (with_leaf parts text) n (leaf-depth parts text n short) fresh (members_in d) (members-depth d n h) in
    omega arith

pub tree-depth : (found : List Leaf) (n : ℕ) → 1 ≤ n → AllByRecursion (λ (leaf : Leaf). length leaf.0 ≤ n) found
    → depth (tree found) ≤ n
tree-depth [] n some few = some
tree-depth (leaf ∷ found) n some few = leaf-depth leaf.0 leaf.1 n few.0 (tree found) (tree-depth found n some few.1)
