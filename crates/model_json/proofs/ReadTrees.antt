-- The leaves of a value that was read fit into their object.
use Rattle.std.specs.Prelude.{◌≡◌, ◌≢◌, ℕ, ◌+◌, ◌<◌, ◌≤◌, Bool, true, false, List, [], ◌∷◌, ◌++◌, length, Option, Some, None, option_map, option_and_then}
use Rattle.std.proofs.Common.{refl, sym, ap, subst, ◌∙◌, cond, arith, inl, inr, length-append}
use Rattle.std.specs.List.{AllByRecursion}
use Rattle.std.specs.declared.cmp.Ordering.TheVariants.{Less}
use Rattle.general_words.specs.Texts.{text_cmp}
use Rattle.general_words.proofs.Lists.{some_is, none_is_no_some, all_append}
use Rattle.model_names.specs.ArrayPart.{last_index, is_array_like, array_part}
use Rattle.model_names.specs.Name.{Part}
use Rattle.model_names.proofs.ArrayLemmas.{array_part-once}
use Rattle.model_names.proofs.RefusesLemmas.{from_map, from_and_then}
use Rattle.serde_json.specs.Data.{Data, null, boolean, number, string, array, object, Items, no_items, item, Members, no_members, member}
use Rattle.model_json.specs.Leaves.{Leaf, within, one_leaf, boolean_text, integer_text, if_some, joined, leaves, items_leaves, members_leaves}
use Rattle.model_json.specs.Tree.{members_in, tree, AreNames, AreItems, AreOfOneKind, Fits}
use Rattle.model_json.specs.Keys.{begins_as_item}
use Rattle.model_json.proofs.TreeLemmas.{child-here, child-later, FirstIsOther, BeginOther, FirstIsLater, BeginLater, later-are-others, tree-within}
use Rattle.model_json.proofs.TreeReads.{Goes}
use Rattle.model_json.proofs.TextTokens.{AllBelow}
use Rattle.model_json.proofs.Rising.{IsRising, AreRising, HaveRising}

-- ---- one part's leaves before those of others

abbrev AllGo : List Leaf → Members → Type 0
AllGo found ms = AllByRecursion (λ (leaf : Leaf). Goes leaf.0 ms) found

go-first : (part : Part) (d : Data) (ms : Members) (found : List Leaf)
    → AllByRecursion (λ (leaf : Leaf). Fits leaf.0 d) found → AllGo (within part found) (member part d ms)
go-first part d ms [] h = tt
go-first part d ms (leaf ∷ found) h =
    (subst (Fits leaf.0) (sym (child-here part d ms)) h.0, go-first part d ms found h.1)

goes-behind : (part : Part) (d : Data) (ms : Members) (parts : List Part) → FirstIsOther part parts → Goes parts ms
    → Goes parts (member part d ms)
goes-behind part d ms [] other h = absurd other
goes-behind part d ms (first ∷ parts) other h =
    subst (Fits parts) (sym (child-later first part d ms (λ e. other (sym e)))) h

go-behind : (part : Part) (d : Data) (ms : Members) (found : List Leaf) → BeginOther part found → AllGo found ms
    → AllGo found (member part d ms)
go-behind part d ms [] other h = tt
go-behind part d ms (leaf ∷ found) other h =
    (goes-behind part d ms leaf.0 other.0 h.0, go-behind part d ms found other.1 h.1)

go-together : (part : Part) (leaf : Leaf) (here more : List Leaf) → BeginOther part more
    → AllByRecursion (λ (l : Leaf). Fits l.0 (tree (leaf ∷ here))) (leaf ∷ here) → AllGo more (members_in (tree more))
    → AllGo (within part (leaf ∷ here) ++ more) (members_in (tree (within part (leaf ∷ here) ++ more)))
go-together part leaf here more other fit go =
    let found = within part (leaf ∷ here) ++ more in
    let d = tree (leaf ∷ here) in
    let ms = members_in (tree more) in
    subst (AllGo found) (sym (ap members_in (tree-within part leaf here more other)))
    (all_append (λ (l : Leaf). Goes l.0 (member part d ms)) (within part (leaf ∷ here)) more (go-first part d ms (leaf ∷ here) fit) (go-behind part d ms more other go))

-- leaves that go on in members are those of an object
is-object : (found : List Leaf) → AllGo found (members_in (tree found)) → tree found ≡ object (members_in (tree found))
is-object [] go = refl
is-object (([], text) ∷ found) go = absurd go.0
is-object ((part ∷ parts, text) ∷ found) go = refl

fits-kind : (parts : List Part) (ms : Members) → AreOfOneKind ms → Goes parts ms → Fits parts (object ms)
fits-kind [] ms kind go = absurd go
fits-kind (part ∷ parts) ms kind go = (kind, go)

all-fit : (ms : Members) (found : List Leaf) → AreOfOneKind ms → AllGo found ms
    → AllByRecursion (λ (leaf : Leaf). Fits leaf.0 (object ms)) found
all-fit ms [] kind go = tt
all-fit ms (leaf ∷ found) kind go = (fits-kind leaf.0 ms kind go.0, all-fit ms found kind go.1)

object-fits : (found : List Leaf) → AreOfOneKind (members_in (tree found)) → AllGo found (members_in (tree found))
    → AllByRecursion (λ (leaf : Leaf). Fits leaf.0 (tree found)) found
object-fits found kind go =
    subst (λ d. AllByRecursion (λ (leaf : Leaf). Fits leaf.0 d) found) (sym (is-object found go)) (all-fit (members_in (tree found)) found kind go)

-- ---- the leaves of members

-- they go on in their object, whose names are no array parts
pub record FitMembers (found : List Leaf) : Type 0 where
  pub go : AllGo found (members_in (tree found))
  pub names : AreNames (members_in (tree found))
  pub no_items : AllByRecursion (λ (leaf : Leaf). begins_as_item leaf.0 ≡ false) found

no-items-within : (part : Part) (found : List Leaf) → is_array_like part ≡ false
    → AllByRecursion (λ (leaf : Leaf). begins_as_item leaf.0 ≡ false) (within part found)
no-items-within part [] e = tt
no-items-within part (leaf ∷ found) e = (e, no-items-within part found e)

members-grow : (name : Part) (here more : List Leaf) → is_array_like name ≡ false → BeginOther name more
    → AllByRecursion (λ (l : Leaf). Fits l.0 (tree here)) here → FitMembers more → FitMembers (within name here ++ more)
members-grow name [] more unlike other fit rest = rest
members-grow name (leaf ∷ here) more unlike other fit rest = record {
  go = go-together name leaf here more other fit rest.go;
  names = subst AreNames (sym (ap members_in (tree-within name leaf here more other))) (unlike, rest.names);
  no_items = all_append (λ (l : Leaf). begins_as_item l.0 ≡ false) (within name (leaf ∷ here)) more (no-items-within name (leaf ∷ here) unlike) rest.no_items;
}

-- what a member and its followers give
pub record Gives (part : Part) (first : Option (List Leaf)) (later : Option (List Leaf)) (found : List Leaf) : Type 0 where
  pub here : List Leaf
  pub more : List Leaf
  pub of_first : first ≡ Some here
  pub of_later : later ≡ Some more
  pub all : within part here ++ more ≡ found

pub gives : (part : Part) (first later : Option (List Leaf)) (found : List Leaf) → joined part first later ≡ Some found
    → Gives part first later found
gives part first later found e =
    let f = from_and_then (λ here. option_map (λ more. within part here ++ more) later) first found e in
    let g = from_map (λ more. within part f.0 ++ more) later found f.2 in
    record { here = f.0; more = g.0; of_first = f.1; of_later = g.1; all = g.2 }

pub gives-member : (b : Bool) (part : Part) (first later : Option (List Leaf)) (found : List Leaf)
    → cond b None (joined part first later) ≡ Some found → (b ≡ false) × Gives part first later found
gives-member true part first later found e = absurd (none_is_no_some found e)
gives-member false part first later found e = (refl, gives part first later found e)

pub later-within : (part next : Part) (found : List Leaf) → text_cmp part next ≡ Less
    → BeginLater part (within next found)
later-within part next [] less = tt
later-within part next (leaf ∷ found) less = (less, later-within part next found less)

pub members-later : (part : Part) (ms : Members) (found : List Leaf) → members_leaves ms ≡ Some found → AllBelow part ms
    → BeginLater part found
members-later part no_members found e below = subst (BeginLater part) (some_is [] found e) tt
members-later part (member name d ms) found e below =
    let g = (gives-member (is_array_like name) name (leaves d) (members_leaves ms) found e).1 in
    subst (BeginLater part) g.all (all_append (λ (leaf : Leaf). FirstIsLater part leaf.0) (within name g.here) g.more (later-within part name g.here below.0) (members-later part ms g.more g.of_later below.1))

-- ---- the leaves of elements

other-within : (part next : Part) (found : List Leaf) → part ≢ next → BeginOther part (within next found)
other-within part next [] other = tt
other-within part next (leaf ∷ found) other = (other, other-within part next found other)

pub some-leaves : (o : Option (List Leaf)) (found : List Leaf) → option_and_then if_some o ≡ Some found
    → (o ≡ Some found) × (found ≢ [])
some-leaves None found e = absurd (none_is_no_some found e)
some-leaves (Some []) found e = absurd (none_is_no_some found e)
some-leaves (Some (leaf ∷ here)) found e =
    let same : leaf ∷ here ≡ found = some_is (leaf ∷ here) found e in (ap Some same, λ none. absurd (let clash = same ∙ none in cc))

length-within : (part : Part) (found : List Leaf) → length (within part found) ≡ length found
length-within part [] = refl
length-within part (leaf ∷ found) = let rest = length-within part found in omega arith

filled : (found : List Leaf) → found ≢ [] → 1 ≤ length found
filled [] some = absurd (some refl)
filled (leaf ∷ found) some = omega arith

-- an element's leaves, and how many leaves are left for those behind it
pub shorter : (part : Part) (here more found : List Leaf) (index : ℕ) → within part here ++ more ≡ found → here ≢ []
    → index + length found ≤ last_index → (index + 1) + length more ≤ last_index
shorter part here more found index all some few =
    let whole : length found ≡ length here + length more = ap length (sym all) ∙ length-append (within part here) more ∙ ap (λ n. n + length more) (length-within part here) in
    let one = filled here some in
    omega arith

items-other : (index later : ℕ) (ds : Items) (found : List Leaf) → items_leaves later ds ≡ Some found → index < later
    → later + length found ≤ last_index → BeginOther (array_part index) found
items-other index later no_items found e less few = subst (BeginOther (array_part index)) (some_is [] found e) tt
items-other index later (item d ds) found e less few =
    let g = gives (array_part later) (option_and_then if_some (leaves d)) (items_leaves (later + 1) ds) found e in
    let some = some-leaves (leaves d) g.here g.of_first in
    let left = shorter (array_part later) g.here g.more found later g.all some.1 few in
    let low : index ≤ last_index = omega arith in
    let high : later ≤ last_index = omega arith in
    subst (BeginOther (array_part index)) g.all (all_append (λ (leaf : Leaf). FirstIsOther (array_part index) leaf.0) (within (array_part later) g.here) g.more
    (other-within (array_part index) (array_part later) g.here (λ same. let equal = array_part-once index later low high same in absurd (omega arith)))
    (items-other index (later + 1) ds g.more g.of_later (omega arith) left))

-- they go on in their object, whose names are just their array parts
record FitItems (index : ℕ) (found : List Leaf) : Type 0 where
  go : AllGo found (members_in (tree found))
  items : AreItems index (members_in (tree found))

items-grow : (index : ℕ) (here more : List Leaf) → here ≢ [] → BeginOther (array_part index) more
    → AllByRecursion (λ (l : Leaf). Fits l.0 (tree here)) here → FitItems (index + 1) more
    → FitItems index (within (array_part index) here ++ more)
items-grow index [] more some other fit rest = absurd (some refl)
items-grow index (leaf ∷ here) more some other fit rest = record {
  go = go-together (array_part index) leaf here more other fit rest.go;
  items = subst (AreItems index) (sym (ap members_in (tree-within (array_part index) leaf here more other))) (refl, rest.items);
}

pub fewer-here : (part : Part) (here more found : List Leaf) (n : ℕ) → within part here ++ more ≡ found
    → length found ≤ n → length here ≤ n
fewer-here part here more found n all few =
    let whole : length found ≡ length here + length more = ap length (sym all) ∙ length-append (within part here) more ∙ ap (λ m. m + length more) (length-within part here) in
    omega arith

pub fewer-more : (part : Part) (here more found : List Leaf) (n : ℕ) → within part here ++ more ≡ found
    → length found ≤ n → length more ≤ n
fewer-more part here more found n all few =
    let whole : length found ≡ length here + length more = ap length (sym all) ∙ length-append (within part here) more ∙ ap (λ m. m + length more) (length-within part here) in
    omega arith

one-fits : (text : List ℕ) → AllByRecursion (λ (leaf : Leaf). Fits leaf.0 (tree (one_leaf text))) (one_leaf text)
one-fits text = (tt, tt)

abbrev AllFit : List Leaf → Type 0
AllFit found = AllByRecursion (λ (leaf : Leaf). Fits leaf.0 (tree found)) found

mutual
  pub value-fits : (d : Data) (found : List Leaf) → leaves d ≡ Some found → IsRising d → length found ≤ last_index
      → AllFit found
  value-fits null found e rises few = absurd (none_is_no_some found e)
  value-fits (boolean b) found e rises few =
      subst AllFit (some_is (one_leaf (boolean_text b)) found e) (one-fits (boolean_text b))
  value-fits (number n) found e rises few =
      let f = from_map one_leaf (integer_text n) found e in subst AllFit f.2 (one-fits f.0)
  value-fits (string text) found e rises few = subst AllFit (some_is (one_leaf text) found e) (one-fits text)
  value-fits (array ds) found e rises few =
      let fit = items-fit 0 ds found e rises (omega arith) in object-fits found (inr fit.items) fit.go
  value-fits (object ms) found e rises few =
      let fit = members-fit ms found e rises few in object-fits found (inl fit.names) fit.go

  pub members-fit : (ms : Members) (found : List Leaf) → members_leaves ms ≡ Some found → HaveRising ms
      → length found ≤ last_index → FitMembers found
  members-fit no_members found e rises few =
      subst FitMembers (some_is [] found e) (record { go = tt; names = tt; no_items = tt })
  members-fit (member name d ms) found e rises few =
      let cut = gives-member (is_array_like name) name (leaves d) (members_leaves ms) found e in
      let g = cut.1 in
      subst FitMembers g.all (members-grow name g.here g.more cut.0 (later-are-others name g.more (members-later name ms g.more g.of_later rises.0))
      (value-fits d g.here g.of_first rises.1 (fewer-here name g.here g.more found last_index g.all few))
      (members-fit ms g.more g.of_later rises.2 (fewer-more name g.here g.more found last_index g.all few)))

  items-fit : (index : ℕ) (ds : Items) (found : List Leaf) → items_leaves index ds ≡ Some found → AreRising ds
      → index + length found ≤ last_index → FitItems index found
  items-fit index no_items found e rises few =
      subst (FitItems index) (some_is [] found e) (record { go = tt; items = tt })
  items-fit index (item d ds) found e rises few =
      let g = gives (array_part index) (option_and_then if_some (leaves d)) (items_leaves (index + 1) ds) found e in
      let some = some-leaves (leaves d) g.here g.of_first in
      let left = shorter (array_part index) g.here g.more found index g.all some.1 few in
      let enough : length found ≤ last_index = omega arith in
      subst (FitItems index) g.all (items-grow index g.here g.more some.1 (items-other index (index + 1) ds g.more g.of_later (omega arith) left)
      (value-fits d g.here some.0 rises.0 (fewer-here (array_part index) g.here g.more found last_index g.all enough))
      (items-fit (index + 1) ds g.more g.of_later rises.1 left))
