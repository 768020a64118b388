-- Each member and each element of the object of leaves has a name, where each leaf has one.
use Rattle.std.specs.Prelude.{◌≡◌, ◌≢◌, ℕ, ◌+◌, List, [], ◌∷◌, ◌++◌, length}
use Rattle.std.proofs.Common.{refl, sym, ap, subst, ◌∙◌, arith, append_assoc, length-append, inl, inr}
use Rattle.std.specs.List.{AllByRecursion, flat_map}
use Rattle.std.proofs.lemmas.Bool.{cond-true, cond-false}
use Rattle.std.proofs.lemmas.List.Concat.{flat_map-append}
use Rattle.general_words.proofs.Lists.{all_back}
use Rattle.model_names.specs.ArrayPart.{is_array_like}
use Rattle.model_names.specs.Name.{Part}
use Rattle.model_names.specs.Spelling.{spelled, path_of_parts}
use Rattle.model_names.specs.WellFormed.{IsPart, IsName}
use Rattle.model_names.proofs.PartLemmas.{all_front}
use Rattle.serde_json.specs.Data.{Data, null, boolean, number, string, array, object, Members, no_members, member}
use Rattle.model_json.specs.Leaves.{Leaf, within}
use Rattle.model_json.specs.Tree.{members_in, tree, AreNames, AreItems, AreOfOneKind, Fits}
use Rattle.model_json.specs.Reading.{name_at, IsNamed, AreNamed, ItemsNamed, MembersNamed}
use Rattle.model_json.specs.Text.{begin_as_items, with_arrays, elements, members_with_arrays}
use Rattle.model_json.proofs.TreeLemmas.{Ascend}
use Rattle.model_json.proofs.TreeReads.{Goes, kind-of, all-go, Cut, cut, first-fits, no-text, no-leaves, names-begin, first-item}

-- ---- a front of a name's parts is a name

path-some : (parts more : List Part) (part : Part)
    → path_of_parts (parts ++ part ∷ more) ≡ flat_map (λ p. 47 ∷ spelled p) (parts ++ part ∷ more)
path-some [] more part = refl
path-some (first ∷ parts) more part = refl

name-front : (before : List Part) (part : Part) (more : List Part) → IsName (name_at (before ++ part ∷ more))
    → IsNamed before part
name-front before part more is =
    let f : Part → List ℕ = λ p. 47 ∷ spelled p in
    let whole = path-some before more part in
    let front = path-some before [] part in
    let split : (before ++ part ∷ []) ++ more ≡ before ++ part ∷ more = append_assoc before (part ∷ []) more in
    let long : flat_map f (before ++ part ∷ more) ≡ flat_map f (before ++ part ∷ []) ++ flat_map f more = ap (flat_map f) (sym split) ∙ flat_map-append f (before ++ part ∷ []) more in
    let bytes : length (path_of_parts (before ++ part ∷ more)) ≡ length (path_of_parts (before ++ part ∷ [])) + length (flat_map f more) =
    ap length (whole ∙ long) ∙ length-append (flat_map f (before ++ part ∷ [])) (flat_map f more) ∙ ap (λ (l : List ℕ). length l + length (flat_map f more)) (sym front) in
    record {
      parts = all_front IsPart (before ++ part ∷ []) more (subst (AllByRecursion IsPart) (sym split) is.parts);
      limit = omega (arith, is.limit, bytes);
    }

-- ---- the object

abbrev AllNamed : List Part → List Leaf → Type 0
AllNamed before found = AllByRecursion (λ (leaf : Leaf). IsName (name_at (before ++ leaf.0))) found

named-within : (before : List Part) (part : Part) (found : List Leaf) → AllNamed before (within part found)
    → AllNamed (before ++ part ∷ []) found
named-within before part [] h = tt
named-within before part (leaf ∷ found) h =
    (subst (λ parts. IsName (name_at parts)) (sym (append_assoc before (part ∷ []) leaf.0)) h.0, named-within before part found h.1)

-- what the leaves of a first member and of those behind it have
record NamedCut (before : List Part) (name : Part) (d : Data) (ms : Members) (found : List Leaf) : Type 0 where
  cut_at : Cut name d ms found
  here : IsNamed before name
  first : AllNamed (before ++ name ∷ []) (cut_at.first ∷ cut_at.here)
  more : AllNamed before cut_at.more

named-cut : (before : List Part) (name : Part) (d : Data) (ms : Members) (found : List Leaf) → AllNamed before found
    → Cut name d ms found → NamedCut before name d ms found
named-cut before name d ms found named c =
    let P : Leaf → Type 0 = λ leaf. IsName (name_at (before ++ leaf.0)) in
    let all = subst (AllByRecursion P) c.all named in
    let front = all_front P (within name (c.first ∷ c.here)) c.more all in
    record {
      cut_at = c;
      here = name-front before name c.first.0 front.0;
      first = named-within before name (c.first ∷ c.here) front;
      more = all_back P (within name (c.first ∷ c.here)) c.more all;
    }

some-more : (leaf : Leaf) (found : List Leaf) → leaf ∷ found ≢ []
some-more leaf found e = absurd cc

object-named : (before : List Part) (ms : Members) (found : List Leaf) → found ≢ []
    → AllByRecursion (λ (leaf : Leaf). Goes leaf.0 ms) found → AreOfOneKind ms
    → (AreNames ms → MembersNamed before (members_with_arrays ms)) → (AreItems 0 ms → ItemsNamed before 0 (elements ms))
    → AreNamed before (with_arrays (object ms))
object-named before ms found some go (inl names) as_names as_items =
    subst (AreNamed before) (sym (cond-false (begin_as_items ms) (array (elements ms)) (object (members_with_arrays ms)) (names-begin ms names))) (as_names names)
object-named before no_members found some go (inr items) as_names as_items = absurd (some (no-leaves found go))
object-named before (member name d ms) found some go (inr items) as_names as_items =
    subst (AreNamed before) (sym (cond-true (is_array_like name) (array (elements (member name d ms))) (object (members_with_arrays (member name d ms))) (ap is_array_like items.0 ∙ first-item))) (as_items items)

mutual
  pub value-named : (before : List Part) (d : Data) (found : List Leaf) → tree found ≡ d → found ≢ [] → Ascend found
      → AllByRecursion (λ (leaf : Leaf). Fits leaf.0 d) found → AllNamed before found → AreNamed before (with_arrays d)
  value-named before null found is some ascend fit named = tt
  value-named before (boolean b) found is some ascend fit named = tt
  value-named before (number n) found is some ascend fit named = tt
  value-named before (string text) found is some ascend fit named = tt
  value-named before (array ds) found is some ascend fit named =
      let f = first-fits (array ds) found some fit in absurd (no-text (array ds) f.0 (λ h. h) (λ part. refl) f.1)
  value-named before (object ms) found is some ascend fit named =
      let f = first-fits (object ms) found some fit in
      let go = all-go ms found fit in
      object-named before ms found some go (kind-of f.0 ms f.1).0 (members-named before ms found (ap members_in is) ascend go named) (elements-named before 0 ms found (ap members_in is) ascend go named)

  members-named : (before : List Part) (ms : Members) (found : List Leaf) → members_in (tree found) ≡ ms → Ascend found
      → AllByRecursion (λ (leaf : Leaf). Goes leaf.0 ms) found → AllNamed before found → AreNames ms
      → MembersNamed before (members_with_arrays ms)
  members-named before no_members found is ascend go named names = tt
  members-named before (member name d ms) found is ascend go named names =
      let n = named-cut before name d ms found named (cut name d ms found is ascend go) in
      let c = n.cut_at in (
        n.here,
        value-named (before ++ name ∷ []) d (c.first ∷ c.here) c.of_first (some-more c.first c.here) c.here_ascend c.fit n.first,
        members-named before ms c.more c.of_others c.more_ascend c.go n.more names.1,
      )

  elements-named : (before : List Part) (index : ℕ) (ms : Members) (found : List Leaf) → members_in (tree found) ≡ ms
      → Ascend found → AllByRecursion (λ (leaf : Leaf). Goes leaf.0 ms) found → AllNamed before found
      → AreItems index ms → ItemsNamed before index (elements ms)
  elements-named before index no_members found is ascend go named items = tt
  elements-named before index (member name d ms) found is ascend go named items =
      let n = named-cut before name d ms found named (cut name d ms found is ascend go) in
      let c = n.cut_at in (
        subst (IsNamed before) items.0 n.here,
        subst (λ part. AreNamed (before ++ part ∷ []) (with_arrays d)) items.0 (value-named (before ++ name ∷ []) d (c.first ∷ c.here) c.of_first (some-more c.first c.here) c.here_ascend c.fit n.first),
        elements-named before (index + 1) ms c.more c.of_others c.more_ascend c.go n.more items.1,
      )
