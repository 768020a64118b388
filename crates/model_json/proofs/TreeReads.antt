-- The object of leaves in name order, with its arrays, has these leaves, where each of them fits.
use Rattle.std.specs.Prelude.{◌≡◌, ◌≢◌, ℕ, ◌+◌, true, false, List, [], ◌∷◌, ◌++◌, Option, Some, None, option_and_then}
use Rattle.std.proofs.Common.{refl, sym, ap, ap₂, subst, ◌∙◌, inl, inr}
use Rattle.std.specs.Fmt.{digits}
use Rattle.std.specs.List.{AllByRecursion}
use Rattle.std.proofs.lemmas.Bool.{cond-true, cond-false}
use Rattle.model_names.specs.ArrayPart.{is_array_like, array_part}
use Rattle.model_names.specs.Name.{Part}
use Rattle.model_names.proofs.PartLemmas.{all_front}
use Rattle.serde_json.specs.Data.{Data, null, boolean, number, string, array, object, Members, no_members, member}
use Rattle.model_json.specs.Leaves.{Leaf, within, joined, if_some, leaves, items_leaves, members_leaves}
use Rattle.model_json.specs.Tree.{empty, members_in, tree, AreNames, AreItems, AreOfOneKind, IsText, child, Fits}
use Rattle.model_json.specs.Text.{begin_as_items, with_arrays, elements, members_with_arrays}
use Rattle.model_json.proofs.TreeLemmas.{child-here, child-later, FirstIsOther, BeginOther, BeginLater, later-are-others, tree-within, Ascend, Split, split, here-ascends, more-ascends}
use Rattle.general_words.proofs.Lists.{all_back}

-- nothing fits into nothing
pub nothing-fits : (parts : List Part) → Fits parts empty → ⊥
nothing-fits [] h = h
nothing-fits (part ∷ parts) h = nothing-fits parts h.1

-- where members stand, a leaf goes on in one of them
abbrev pub Goes : List Part → Members → Type 0
Goes [] ms = ⊥
Goes (part ∷ parts) ms = Fits parts (child part (object ms))

pub kind-of : (parts : List Part) (ms : Members) → Fits parts (object ms) → AreOfOneKind ms × Goes parts ms
kind-of [] ms h = absurd h
kind-of (part ∷ parts) ms h = h

pub all-go : (ms : Members) (found : List Leaf) → AllByRecursion (λ (leaf : Leaf). Fits leaf.0 (object ms)) found
    → AllByRecursion (λ (leaf : Leaf). Goes leaf.0 ms) found
all-go ms [] h = tt
all-go ms (leaf ∷ found) h = ((kind-of leaf.0 ms h.0).1, all-go ms found h.1)

-- the leaves of the first member
go-here : (part : Part) (d : Data) (ms : Members) (found : List Leaf)
    → AllByRecursion (λ (leaf : Leaf). Goes leaf.0 (member part d ms)) (within part found)
    → AllByRecursion (λ (leaf : Leaf). Fits leaf.0 d) found
go-here part d ms [] h = tt
go-here part d ms (leaf ∷ found) h = (subst (Fits leaf.0) (child-here part d ms) h.0, go-here part d ms found h.1)

-- and those of the others
goes-later : (part : Part) (d : Data) (ms : Members) (parts : List Part) → FirstIsOther part parts
    → Goes parts (member part d ms) → Goes parts ms
goes-later part d ms [] other h = absurd other
goes-later part d ms (first ∷ parts) other h = subst (Fits parts) (child-later first part d ms (λ e. other (sym e))) h

go-later : (part : Part) (d : Data) (ms : Members) (found : List Leaf) → BeginOther part found
    → AllByRecursion (λ (leaf : Leaf). Goes leaf.0 (member part d ms)) found
    → AllByRecursion (λ (leaf : Leaf). Goes leaf.0 ms) found
go-later part d ms [] other h = tt
go-later part d ms (leaf ∷ found) other h =
    (goes-later part d ms leaf.0 other.0 h.0, go-later part d ms found other.1 h.1)

-- leaves that go on in members, as those of the first and of the others
pub record Cut (name : Part) (d : Data) (ms : Members) (found : List Leaf) : Type 0 where
  pub first : Leaf
  pub here : List Leaf
  pub more : List Leaf
  pub all : found ≡ within name (first ∷ here) ++ more
  pub later : BeginLater name more
  pub of_first : tree (first ∷ here) ≡ d
  pub of_others : members_in (tree more) ≡ ms
  pub here_ascend : Ascend (first ∷ here)
  pub more_ascend : Ascend more
  pub fit : AllByRecursion (λ (leaf : Leaf). Fits leaf.0 d) (first ∷ here)
  pub go : AllByRecursion (λ (leaf : Leaf). Goes leaf.0 ms) more

cut-split : (name : Part) (d : Data) (ms : Members) (found : List Leaf) → members_in (tree found) ≡ member name d ms
    → Ascend found → AllByRecursion (λ (leaf : Leaf). Goes leaf.0 (member name d ms)) found → Split found
    → Cut name d ms found
cut-split name d ms found is ascend go s =
    let shape : member s.part (tree (s.first ∷ s.here)) (members_in (tree s.more)) ≡ member name d ms = sym (ap members_in (tree-within s.part s.first s.here s.more (later-are-others s.part s.more s.later))) ∙ ap (λ f. members_in (tree f)) (sym s.all) ∙ is in
    let part_is : s.part ≡ name = cc in
    let first_is : tree (s.first ∷ s.here) ≡ d = cc in
    let others_are : members_in (tree s.more) ≡ ms = cc in
    let all : found ≡ within name (s.first ∷ s.here) ++ s.more = s.all ∙ ap (λ p. within p (s.first ∷ s.here) ++ s.more) part_is in
    let P : Leaf → Type 0 = λ leaf. Goes leaf.0 (member name d ms) in
    let go_all = subst (AllByRecursion P) all go in
    let ascend_all = subst Ascend all ascend in
    record {
      first = s.first;
      here = s.here;
      more = s.more;
      all = all;
      later = subst (λ p. BeginLater p s.more) part_is s.later;
      of_first = first_is;
      of_others = others_are;
      here_ascend = here-ascends name (s.first ∷ s.here) s.more ascend_all;
      more_ascend = more-ascends name (s.first ∷ s.here) s.more ascend_all;
      fit = go-here name d ms (s.first ∷ s.here) (all_front P (within name (s.first ∷ s.here)) s.more go_all);
      go = go-later name d ms s.more (subst (λ p. BeginOther p s.more) part_is (later-are-others s.part s.more s.later)) (all_back P (within name (s.first ∷ s.here)) s.more go_all);
    }

pub cut : (name : Part) (d : Data) (ms : Members) (found : List Leaf) → members_in (tree found) ≡ member name d ms
    → Ascend found → AllByRecursion (λ (leaf : Leaf). Goes leaf.0 (member name d ms)) found → Cut name d ms found
cut name d ms [] is ascend go = absurd cc
cut name d ms (([], text) ∷ found) is ascend go = absurd go.0
cut name d ms ((part ∷ parts, text) ∷ found) is ascend go =
    cut-split name d ms ((part ∷ parts, text) ∷ found) is ascend go (split part parts text found ascend)

-- leaves that go on in no members are none
pub no-leaves : (found : List Leaf) → AllByRecursion (λ (leaf : Leaf). Goes leaf.0 no_members) found → found ≡ []
no-leaves [] go = refl
no-leaves (([], text) ∷ found) go = absurd go.0
no-leaves ((part ∷ parts, text) ∷ found) go = absurd (nothing-fits parts go.0)

-- ---- what fits into a value that is no object

-- one text alone
pub text-leaves : (text : List ℕ) (found : List Leaf) → tree found ≡ string text → found ≢ [] → Ascend found
    → AllByRecursion (λ (leaf : Leaf). Fits leaf.0 (string text)) found → found ≡ ([], text) ∷ []
text-leaves text [] is some ascend fit = absurd (some refl)
text-leaves text (([], t) ∷ []) is some ascend fit = let same : t ≡ text = cc in ap (λ s. ([], s) ∷ []) same
text-leaves text (([], t) ∷ (([], u) ∷ found)) is some ascend fit = absurd (let clash = ascend.0.0 in cc)
text-leaves text (([], t) ∷ ((part ∷ parts, u) ∷ found)) is some ascend fit = absurd (nothing-fits parts fit.1.0.1)
text-leaves text ((part ∷ parts, t) ∷ found) is some ascend fit = absurd (nothing-fits parts fit.0.1)

pub first-fits : (d : Data) (found : List Leaf) → found ≢ [] → AllByRecursion (λ (leaf : Leaf). Fits leaf.0 d) found
    → (parts : List Part) × Fits parts d
first-fits d [] some fit = absurd (some refl)
first-fits d (leaf ∷ found) some fit = (leaf.0, fit.0)

pub no-text : (d : Data) (parts : List Part) → (IsText d → ⊥) → ((part : Part) → child part d ≡ empty) → Fits parts d
    → ⊥
no-text d [] none nothing h = none h
no-text d (part ∷ parts) none nothing h = nothing-fits parts (subst (Fits parts) (nothing part) h.1)

-- ---- the leaves of the object

pub names-begin : (ms : Members) → AreNames ms → begin_as_items ms ≡ false
names-begin no_members h = refl
names-begin (member name d ms) h = h.0

pub first-item : is_array_like (array_part 0) ≡ true
unfolding digits
first-item = refl

some-more : (leaf : Leaf) (found : List Leaf) → leaf ∷ found ≢ []
some-more leaf found e = absurd cc

object-leaves : (ms : Members) (found : List Leaf) → found ≢ [] → AllByRecursion (λ (leaf : Leaf). Goes leaf.0 ms) found
    → AreOfOneKind ms
    → (AreNames ms → members_leaves (members_with_arrays ms) ≡ Some found)
    → (AreItems 0 ms → items_leaves 0 (elements ms) ≡ Some found) → leaves (with_arrays (object ms)) ≡ Some found
object-leaves ms found some go (inl names) as_names as_items =
    ap leaves (cond-false (begin_as_items ms) (array (elements ms)) (object (members_with_arrays ms)) (names-begin ms names))
    ∙ as_names names
object-leaves no_members found some go (inr items) as_names as_items = absurd (some (no-leaves found go))
object-leaves (member name d ms) found some go (inr items) as_names as_items =
    ap leaves (cond-true (is_array_like name) (array (elements (member name d ms))) (object (members_with_arrays (member name d ms))) (ap is_array_like items.0 ∙ first-item))
    ∙ as_items items

mutual
  pub value-leaves : (d : Data) (found : List Leaf) → tree found ≡ d → found ≢ [] → Ascend found
      → AllByRecursion (λ (leaf : Leaf). Fits leaf.0 d) found → leaves (with_arrays d) ≡ Some found
  value-leaves null found is some ascend fit =
      let f = first-fits null found some fit in absurd (no-text null f.0 (λ h. h) (λ part. refl) f.1)
  value-leaves (boolean b) found is some ascend fit =
      let f = first-fits (boolean b) found some fit in absurd (no-text (boolean b) f.0 (λ h. h) (λ part. refl) f.1)
  value-leaves (number n) found is some ascend fit =
      let f = first-fits (number n) found some fit in absurd (no-text (number n) f.0 (λ h. h) (λ part. refl) f.1)
  value-leaves (string text) found is some ascend fit = ap Some (sym (text-leaves text found is some ascend fit))
  value-leaves (array ds) found is some ascend fit =
      let f = first-fits (array ds) found some fit in absurd (no-text (array ds) f.0 (λ h. h) (λ part. refl) f.1)
  value-leaves (object ms) found is some ascend fit =
      let f = first-fits (object ms) found some fit in
      let go = all-go ms found fit in
      object-leaves ms found some go (kind-of f.0 ms f.1).0 (names-leaves ms found (ap members_in is) ascend go) (elements-leaves 0 ms found (ap members_in is) ascend go)

  names-leaves : (ms : Members) (found : List Leaf) → members_in (tree found) ≡ ms → Ascend found
      → AllByRecursion (λ (leaf : Leaf). Goes leaf.0 ms) found → AreNames ms
      → members_leaves (members_with_arrays ms) ≡ Some found
  names-leaves no_members found is ascend go names = ap Some (sym (no-leaves found go))
  names-leaves (member name d ms) found is ascend go names =
      let c = cut name d ms found is ascend go in
      cond-false (is_array_like name) None (joined name (leaves (with_arrays d)) (members_leaves (members_with_arrays ms))) names.0
      ∙ ap₂ (joined name) (value-leaves d (c.first ∷ c.here) c.of_first (some-more c.first c.here) c.here_ascend c.fit) (names-leaves ms c.more c.of_others c.more_ascend c.go names.1)
      ∙ ap Some (sym c.all)

  elements-leaves : (index : ℕ) (ms : Members) (found : List Leaf) → members_in (tree found) ≡ ms → Ascend found
      → AllByRecursion (λ (leaf : Leaf). Goes leaf.0 ms) found → AreItems index ms
      → items_leaves index (elements ms) ≡ Some found
  elements-leaves index no_members found is ascend go items = ap Some (sym (no-leaves found go))
  elements-leaves index (member name d ms) found is ascend go items =
      let c = cut name d ms found is ascend go in
      ap₂ (λ (here later : Option (List Leaf)). joined (array_part index) (option_and_then if_some here) later) (value-leaves d (c.first ∷ c.here) c.of_first (some-more c.first c.here) c.here_ascend c.fit) (elements-leaves (index + 1) ms c.more c.of_others c.more_ascend c.go items.1)
      ∙ ap (λ p. Some (within p (c.first ∷ c.here) ++ c.more)) (sym items.0)
      ∙ ap Some (sym c.all)
