-- A key of few parts fits into the object of a map where it fits into that of leaves that are cut off below the deepest
-- key.
use Rattle.std.specs.Prelude.{◌≡◌, ◌⊎◌, ℕ, zero, suc, ◌+◌, ◌≤◌, Bool, true, false, List, [], ◌∷◌, length, map, take}
use Rattle.std.proofs.Common.{refl, sym, ap, ◌∙◌, cond, arith}
use Rattle.general_words.specs.Texts.{is_text}
use Rattle.model_names.specs.Name.{Part}
use Rattle.model_names.specs.ArrayPart.{is_array_like, array_part}
use Rattle.serde_json.specs.Data.{Data, null, boolean, number, string, array, object, Members, no_members, member}
use Rattle.model_json.specs.Leaves.{Leaf}
use Rattle.model_json.specs.Tree.{empty, members_in, text_or, into, with_leaf, tree, AreNames, AreItems, AreOfOneKind, IsText, child, Fits}
use Rattle.json_storage.specs.Writing.{cut_leaf}
use Rattle.json_storage.proofs.EachMember.{IsEach, child-each}

-- something stands below, whatever it is
abbrev below : Data
below = object (member [] null no_members)

abbrev if_members : Members → Data
if_members no_members = empty
if_members (member name d ms) = below

-- a value down to a depth, without its texts
abbrev mutual
  shape : ℕ → Data → Data
  shape n null = null
  shape n (boolean b) = null
  shape n (number m) = null
  shape n (string text) = string []
  shape n (array ds) = null
  shape zero (object ms) = if_members ms
  shape (suc n) (object ms) = object (shapes n ms)

  shapes : ℕ → Members → Members
  shapes n no_members = no_members
  shapes n (member name d ms) = member name (shape n d) (shapes n ms)

-- a leaf that joins a value down to a depth
abbrev shaped : ℕ → List Part → Data → Data
shaped n [] d = text_or [] d
shaped zero (part ∷ parts) d = below
shaped (suc n) (part ∷ parts) d = object (into part (shaped n parts) (members_in d))

shape-each : (n : ℕ) → IsEach (shape n) (shapes n)
shape-each n = record { none = refl; more = λ name d ms. refl }

shape-empty : (n : ℕ) → shape n empty ≡ empty
shape-empty zero = refl
shape-empty (suc n) = refl

shape-members : (n : ℕ) (d : Data) → members_in (shape (suc n) d) ≡ shapes n (members_in d)
shape-members n null = refl
shape-members n (boolean b) = refl
shape-members n (number m) = refl
shape-members n (string text) = refl
shape-members n (array ds) = refl
shape-members n (object ms) = refl

into-some : (part : Part) (change : Data → Data) (ms : Members) → if_members (into part change ms) ≡ below
into-some part change no_members = refl
into-some part change (member name d ms) = by (is_text part name)
  where
    by : (b : Bool)
        → if_members (cond b (member part (change d) ms) (member part (change empty) (member name d ms))) ≡ below
    by true = refl
    by false = refl

shape-into : (n : ℕ) (part : Part) (change other : Data → Data) → ((d : Data) → shape n (change d) ≡ other (shape n d))
    → (ms : Members) → shapes n (into part change ms) ≡ into part other (shapes n ms)
shape-into n part change other same no_members =
    ap (λ d. member part d no_members) (same empty ∙ ap other (shape-empty n))
shape-into n part change other same (member name d ms) = by (is_text part name)
  where
    by : (b : Bool)
        → shapes n (cond b (member part (change d) ms) (member part (change empty) (member name d ms)))
        ≡ cond b (member part (other (shape n d)) (shapes n ms)) (member part (other empty) (member name (shape n d) (shapes n ms)))
    by true = ap (λ e. member part e (shapes n ms)) (same d)
    by false = ap (λ e. member part e (member name (shape n d) (shapes n ms))) (same empty ∙ ap other (shape-empty n))

shape-text : (n : ℕ) (text : List ℕ) (d : Data) → shape n (text_or text d) ≡ text_or [] (shape n d)
shape-text n text null = refl
shape-text n text (boolean b) = refl
shape-text n text (number m) = refl
shape-text n text (string s) = refl
shape-text n text (array ds) = refl
shape-text zero text (object no_members) = refl
shape-text zero text (object (member name d ms)) = refl
shape-text (suc n) text (object no_members) = refl
shape-text (suc n) text (object (member name d ms)) = refl

shape-leaf : (n : ℕ) (parts : List Part) (text : List ℕ) (d : Data)
    → shape n (with_leaf parts text d) ≡ shaped n parts (shape n d)
shape-leaf n [] text d = shape-text n text d
shape-leaf zero (part ∷ parts) text d = into-some part (with_leaf parts text) (members_in d)
shape-leaf (suc n) (part ∷ parts) text d =
    ap object (shape-into n part (with_leaf parts text) (shaped n parts) (shape-leaf n parts text) (members_in d) ∙ ap (into part (shaped n parts)) (sym (shape-members n d)))

shaped-cut : (n : ℕ) (parts : List Part) (d : Data) → shaped n (take (suc n) parts) d ≡ shaped n parts d
shaped-cut n [] d = refl
shaped-cut zero (part ∷ parts) d = refl
shaped-cut (suc n) (part ∷ parts) d = λ i. object (into part (λ e. shaped-cut n parts e i) (members_in d))

shape-cut : (n : ℕ) (found : List Leaf) → shape n (tree (map (cut_leaf (suc n)) found)) ≡ shape n (tree found)
shape-cut n [] = refl
shape-cut n (leaf ∷ found) =
    let rest = tree (map (cut_leaf (suc n)) found) in
    shape-leaf n (take (suc n) leaf.0) leaf.1 rest ∙ shaped-cut n leaf.0 (shape n rest)
    ∙ ap (shaped n leaf.0) (shape-cut n found) ∙ sym (shape-leaf n leaf.0 leaf.1 (tree found))

-- ---- what fits

shape-is-text : (n : ℕ) (d : Data) → IsText (shape n d) ≡ IsText d
shape-is-text n null = refl
shape-is-text n (boolean b) = refl
shape-is-text n (number m) = refl
shape-is-text n (string text) = refl
shape-is-text n (array ds) = refl
shape-is-text zero (object no_members) = refl
shape-is-text zero (object (member name d ms)) = refl
shape-is-text (suc n) (object ms) = refl

shape-names : (n : ℕ) (ms : Members) → AreNames (shapes n ms) ≡ AreNames ms
shape-names n no_members = refl
shape-names n (member name d ms) = λ i. (is_array_like name ≡ false) × shape-names n ms i

shape-items : (n index : ℕ) (ms : Members) → AreItems index (shapes n ms) ≡ AreItems index ms
shape-items n index no_members = refl
shape-items n index (member name d ms) = λ i. (name ≡ array_part index) × shape-items n (index + 1) ms i

shape-kind : (n : ℕ) (ms : Members) → AreOfOneKind (shapes n ms) ≡ AreOfOneKind ms
shape-kind n ms = λ i. ◌⊎◌ (shape-names n ms i) (shape-items n 0 ms i)

shape-child : (n : ℕ) (part : Part) (d : Data) → child part (shape (suc n) d) ≡ shape n (child part d)
shape-child n part null = sym (shape-empty n)
shape-child n part (boolean b) = sym (shape-empty n)
shape-child n part (number m) = sym (shape-empty n)
shape-child n part (string text) = sym (shape-empty n)
shape-child n part (array ds) = sym (shape-empty n)
shape-child n part (object ms) = child-each (shape n) (shapes n) (shape-each n) (shape-empty n) part ms

shape-fits : (n : ℕ) (parts : List Part) (d : Data) → length parts ≤ n → Fits parts (shape n d) ≡ Fits parts d
shape-fits n [] d few = shape-is-text n d
shape-fits zero (part ∷ parts) d few = absurd (omega (arith, few))
shape-fits (suc n) (part ∷ parts) d few =
    let kind : AreOfOneKind (members_in (shape (suc n) d)) ≡ AreOfOneKind (members_in d) = ap AreOfOneKind (shape-members n d) ∙ shape-kind n (members_in d) in
    let rest : Fits parts (child part (shape (suc n) d)) ≡ Fits parts (child part d) = ap (Fits parts) (shape-child n part d) ∙ shape-fits n parts (child part d) (omega (arith, few)) in
    λ i. kind i × rest i

pub cut-fits : (n : ℕ) (parts : List Part) (found : List Leaf) → length parts ≤ n
    → Fits parts (tree (map (cut_leaf (suc n)) found)) ≡ Fits parts (tree found)
cut-fits n parts found few =
    sym (shape-fits n parts (tree (map (cut_leaf (suc n)) found)) few) ∙ ap (Fits parts) (shape-cut n found)
    ∙ shape-fits n parts (tree found) few
