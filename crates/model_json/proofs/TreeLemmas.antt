-- The object of leaves, one part at a time: leaves in name order are those of a part and those of other parts, and so
-- is their object.
use Rattle.std.specs.Prelude.{◌≡◌, ◌≢◌, ℕ, Bool, true, false, List, [], ◌∷◌, ◌++◌, Some, unwrap_or, ⊤}
use Rattle.std.proofs.Common.{refl, sym, ap, subst, ◌∙◌, cond}
use Rattle.std.specs.Cmp.{tied_itself}
use Rattle.std.specs.Cmp.Lexicographic.{slice_cmp}
use Rattle.std.specs.List.{AllByRecursion}
use Rattle.std.specs.Ordering.{nat_cmp, match_ordering, ordering_then}
use Rattle.std.specs.declared.cmp.Ordering.{Ordering}
use Rattle.std.specs.declared.cmp.Ordering.TheVariants.{Less, Equal, Greater}
use Rattle.std.proofs.lemmas.Bool.{cond-true, cond-false}
use Rattle.std.proofs.lemmas.Cmp.{nat_list_cmp_total}
use Rattle.general_words.specs.Texts.{is_text, text_cmp}
use Rattle.general_words.proofs.Texts.{is_text-Decides, other_text, text_cmp-IsAntisymmetric}
use Rattle.model_names.specs.Name.{Part}
use Rattle.model_names.proofs.PartLemmas.{all_front}
use Rattle.serde_json.specs.Data.{Data, object, Members, no_members, member}
use Rattle.serde_json.specs.Find.{get_member}
use Rattle.model_json.specs.Leaves.{Leaf, within}
use Rattle.model_json.specs.Tree.{empty, members_in, into, with_leaf, tree, child}

-- ---- what stands at a part

pub child-here : (part : Part) (d : Data) (ms : Members) → child part (object (member part d ms)) ≡ d
child-here part d ms =
    ap (λ o. unwrap_or (match_ordering o (get_member part ms) (Some d) (get_member part ms)) empty) (tied_itself nat_list_cmp_total part)

pub child-later : (part name : Part) (d : Data) (ms : Members) → part ≢ name
    → child part (object (member name d ms)) ≡ child part (object ms)
child-later part name d ms other = by (text_cmp part name) refl
  where
    by : (o : Ordering) → text_cmp part name ≡ o
        → unwrap_or (match_ordering o (get_member part ms) (Some d) (get_member part ms)) empty ≡ child part (object ms)
    by Less e = refl
    by Equal e = absurd (other (text_cmp-IsAntisymmetric part name e))
    by Greater e = refl

-- ---- members that begin with another part

abbrev pub NotFirst : Part → Members → Type 0
NotFirst part no_members = ⊤
NotFirst part (member name d ms) = part ≢ name

pub is_text-itself : (part : Part) → is_text part part ≡ true
is_text-itself part = (is_text-Decides part part).1 refl

into-new : (part : Part) (change : Data → Data) (ms : Members) → NotFirst part ms
    → into part change ms ≡ member part (change empty) ms
into-new part change no_members other = refl
into-new part change (member name d ms) other = cond-false (is_text part name) _ _ (other_text part name other)

into-there : (part : Part) (change : Data → Data) (d : Data) (ms : Members)
    → into part change (member part d ms) ≡ member part (change d) ms
into-there part change d ms = cond-true (is_text part part) _ _ (is_text-itself part)

-- a leaf begins with another part
abbrev pub FirstIsOther : Part → List Part → Type 0
FirstIsOther part [] = ⊥
FirstIsOther part (first ∷ parts) = part ≢ first

abbrev pub BeginOther : Part → List Leaf → Type 0
BeginOther part found = AllByRecursion (λ (leaf : Leaf). FirstIsOther part leaf.0) found

into-begins : (part first : Part) (change : Data → Data) (ms : Members) → part ≢ first
    → NotFirst part (into first change ms)
into-begins part first change no_members other = other
into-begins part first change (member name d ms) other = by (is_text first name)
  where
    by : (b : Bool)
        → NotFirst part (cond b (member first (change d) ms) (member first (change empty) (member name d ms)))
    by true = other
    by false = other

leaf-begins : (part : Part) (parts : List Part) (text : List ℕ) (d : Data) → FirstIsOther part parts
    → NotFirst part (members_in (with_leaf parts text d))
leaf-begins part [] text d other = absurd other
leaf-begins part (first ∷ parts) text d other = into-begins part first (with_leaf parts text) (members_in d) other

tree-begins : (part : Part) (more : List Leaf) → BeginOther part more → NotFirst part (members_in (tree more))
tree-begins part [] other = tt
tree-begins part (leaf ∷ more) other = leaf-begins part leaf.0 leaf.1 (tree more) other.0

-- the object of one part's leaves and of others behind them has that part's object as its first member
pub tree-within : (part : Part) (leaf : Leaf) (here more : List Leaf) → BeginOther part more
    → tree (within part (leaf ∷ here) ++ more) ≡ object (member part (tree (leaf ∷ here)) (members_in (tree more)))
tree-within part leaf [] more other =
    ap object (into-new part (with_leaf leaf.0 leaf.1) (members_in (tree more)) (tree-begins part more other))
tree-within part leaf (next ∷ here) more other =
    ap (λ d. object (into part (with_leaf leaf.0 leaf.1) (members_in d))) (tree-within part next here more other)
    ∙ ap object (into-there part (with_leaf leaf.0 leaf.1) (tree (next ∷ here)) (members_in (tree more)))

-- ---- leaves in name order

abbrev pub path_cmp : List Part → List Part → Ordering
path_cmp = slice_cmp (slice_cmp nat_cmp)

-- each leaf comes before all that follow
abbrev pub Ascend : List Leaf → Type 0
Ascend [] = ⊤
Ascend (leaf ∷ found) = AllByRecursion (λ (later : Leaf). path_cmp leaf.0 later.0 ≡ Less) found × Ascend found

-- a leaf begins with a later part
abbrev pub FirstIsLater : Part → List Part → Type 0
FirstIsLater part [] = ⊥
FirstIsLater part (first ∷ parts) = text_cmp part first ≡ Less

abbrev pub BeginLater : Part → List Leaf → Type 0
BeginLater part found = AllByRecursion (λ (leaf : Leaf). FirstIsLater part leaf.0) found

pub less-differs : (part next : Part) → text_cmp part next ≡ Less → part ≢ next
less-differs part next less same =
    let clash : ◌≡◌ {A = Ordering} Less Equal = sym less ∙ ap (text_cmp part) (sym same) ∙ tied_itself nat_list_cmp_total part in absurd cc

later-is-other : (part : Part) (parts : List Part) → FirstIsLater part parts → FirstIsOther part parts
later-is-other part [] h = absurd h
later-is-other part (first ∷ parts) h = less-differs part first h

pub later-are-others : (part : Part) (found : List Leaf) → BeginLater part found → BeginOther part found
later-are-others part [] h = tt
later-are-others part (leaf ∷ found) h = (later-is-other part leaf.0 h.0, later-are-others part found h.1)

-- leaves of one part, at least one, and then those of later parts
pub record Split (found : List Leaf) : Type 0 where
  pub part : Part
  pub first : Leaf
  pub here : List Leaf
  pub more : List Leaf
  pub all : found ≡ within part (first ∷ here) ++ more
  pub later : BeginLater part more

pub same_first : (part : Part) (ps qs : List Part) → path_cmp (part ∷ ps) (part ∷ qs) ≡ path_cmp ps qs
same_first part ps qs = ap (λ o. ordering_then o (path_cmp ps qs)) (tied_itself nat_list_cmp_total part)

then_less : (a b : Ordering) → ordering_then a b ≡ Less → (a ≡ Equal → ⊥) → a ≡ Less
then_less Less b e other = refl
then_less Equal b e other = absurd (other refl)
then_less Greater b e other = absurd cc

-- what comes behind a leaf of a greater part is of no smaller one
behind-later : (part next : Part) (parts later : List Part) → text_cmp part next ≡ Less
    → path_cmp (next ∷ parts) later ≡ Less → FirstIsLater part later
behind-later part next parts [] less e = absurd cc
behind-later part next parts (first ∷ later) less e = by (text_cmp next first) refl e
  where
    by : (o : Ordering) → text_cmp next first ≡ o → ordering_then o (path_cmp parts later) ≡ Less
        → text_cmp part first ≡ Less
    by Less is h = nat_list_cmp_total.trans part next first less is
    by Equal is h = subst (λ p. text_cmp part p ≡ Less) (text_cmp-IsAntisymmetric next first is) less
    by Greater is h = absurd cc

all-later : (part next : Part) (parts : List Part) (found : List Leaf) → text_cmp part next ≡ Less
    → AllByRecursion (λ (later : Leaf). path_cmp (next ∷ parts) later.0 ≡ Less) found → BeginLater part found
all-later part next parts [] less e = tt
all-later part next parts (leaf ∷ found) less e =
    (behind-later part next parts leaf.0 less e.0, all-later part next parts found less e.1)

split-next : (part : Part) (parts : List Part) (text : List ℕ) (next : Part) (later : List Part) (other : List ℕ)
    (found : List Leaf) → Ascend ((part ∷ parts, text) ∷ (next ∷ later, other) ∷ found)
    → Split ((next ∷ later, other) ∷ found) → Split ((part ∷ parts, text) ∷ (next ∷ later, other) ∷ found)
split-next part parts text next later other found ascend rest = by (text_cmp part next) refl
  where
    apart : (text_cmp part next ≡ Equal → ⊥) → Split ((part ∷ parts, text) ∷ (next ∷ later, other) ∷ found)
    apart differ =
        let less : text_cmp part next ≡ Less = then_less (text_cmp part next) (path_cmp parts later) ascend.0.0 differ in
        record {
          part = part;
          first = (parts, text);
          here = [];
          more = (next ∷ later, other) ∷ found;
          all = refl;
          later = (less, all-later part next later found less ascend.1.0);
        }

    joins : part ≡ next → Split ((part ∷ parts, text) ∷ (next ∷ later, other) ∷ found)
    joins same =
        let same_part : next ≡ rest.part = ap head_of rest.all in
        record {
          part = rest.part;
          first = (parts, text);
          here = rest.first ∷ rest.here;
          more = rest.more;
          all = λ i. ((same ∙ same_part) i ∷ parts, text) ∷ rest.all i;
          later = rest.later;
        }
      where
        head_of : List Leaf → Part
        head_of [] = []
        head_of (([], text) ∷ found) = []
        head_of ((part ∷ parts, text) ∷ found) = part

    by : (o : Ordering) → text_cmp part next ≡ o → Split ((part ∷ parts, text) ∷ (next ∷ later, other) ∷ found)
    by Less e = apart (λ f. let clash : ◌≡◌ {A = Ordering} Less Equal = sym e ∙ f in absurd cc)
    by Equal e = joins (text_cmp-IsAntisymmetric part next e)
    by Greater e = apart (λ f. let clash : ◌≡◌ {A = Ordering} Greater Equal = sym e ∙ f in absurd cc)

-- leaves in name order, the first of which has a part, are split at its part
pub split : (part : Part) (parts : List Part) (text : List ℕ) (found : List Leaf)
    → Ascend ((part ∷ parts, text) ∷ found) → Split ((part ∷ parts, text) ∷ found)
split part parts text [] ascend =
    record { part = part; first = (parts, text); here = []; more = []; all = refl; later = tt }
split part parts text (([], other) ∷ found) ascend = absurd (let clash = ascend.0.0 in cc)
split part parts text ((next ∷ later, other) ∷ found) ascend =
    split-next part parts text next later other found ascend (split next later other found ascend.1)

-- both halves of a split are in name order
Ascend-front : (xs ys : List Leaf) → Ascend (xs ++ ys) → Ascend xs
Ascend-front [] ys h = tt
Ascend-front (x ∷ xs) ys h =
    (all_front (λ (later : Leaf). path_cmp x.0 later.0 ≡ Less) xs ys h.0, Ascend-front xs ys h.1)

Ascend-back : (xs ys : List Leaf) → Ascend (xs ++ ys) → Ascend ys
Ascend-back [] ys h = h
Ascend-back (x ∷ xs) ys h = Ascend-back xs ys h.1

unwithin : (part : Part) (parts : List Part) (found : List Leaf)
    → AllByRecursion (λ (later : Leaf). path_cmp (part ∷ parts) later.0 ≡ Less) (within part found)
    → AllByRecursion (λ (later : Leaf). path_cmp parts later.0 ≡ Less) found
unwithin part parts [] h = tt
unwithin part parts (leaf ∷ found) h = (sym (same_first part parts leaf.0) ∙ h.0, unwithin part parts found h.1)

Ascend-within : (part : Part) (found : List Leaf) → Ascend (within part found) → Ascend found
Ascend-within part [] h = tt
Ascend-within part (leaf ∷ found) h = (unwithin part leaf.0 found h.0, Ascend-within part found h.1)

pub here-ascends : (part : Part) (found more : List Leaf) → Ascend (within part found ++ more) → Ascend found
here-ascends part found more h = Ascend-within part found (Ascend-front (within part found) more h)

pub more-ascends : (part : Part) (found more : List Leaf) → Ascend (within part found ++ more) → Ascend more
more-ascends part found more h = Ascend-back (within part found) more h
