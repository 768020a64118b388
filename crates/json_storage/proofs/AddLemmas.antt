-- What the parts of a value add, one after another, is what the value adds.
use Rattle.std.specs.Prelude.{◌≡◌, ◌≢◌, ℕ, ◌+◌, Bool, true, false, List, [], ◌∷◌, ◌++◌, Option, None, Some, option_map, option_and_then}
use Rattle.std.proofs.Common.{refl, sym, ap, subst, ◌∙◌, append_assoc}
use Rattle.std.proofs.lemmas.List.{append-nil}
use Rattle.general_words.proofs.Lists.{some_is, none_is_no_some}
use Rattle.model_names.specs.ArrayPart.{is_array_like, array_part}
use Rattle.model_names.specs.Name.{Part}
use Rattle.serde_json.specs.Data.{Num, Data, number, array, object, Items, no_items, item, Members, no_members, member}
use Rattle.model_json.specs.Leaves.{Leaf, within, one_leaf, integer_text, if_some, joined, leaves, items_leaves, members_leaves}
use Rattle.model_json.specs.Reading.{AreNamed}
use Rattle.model_json.proofs.ReadTrees.{gives, gives-member, some-leaves}
use Rattle.json_storage.specs.Found.{Fill, leaves_in, IsSound, Joined, HasAdded}
use Rattle.json_storage.specs.Reading.{under, ValueAdds, ItemAdds, ItemsAdd, MemberAdds, MembersAdd}
use Rattle.json_storage.specs.declared.found.Found.{Found}

-- ---- one addition after another

-- what adds the same
pub HasAdded-along : (P Q : List Leaf → Type 0) → ((added : List Leaf) → P added → Q added)
    → ((added : List Leaf) → Q added → P added) → (before after : Found) (b : Bool) → HasAdded P before after b
    → HasAdded Q before after b
HasAdded-along P Q to from before after true h =
    record { added = h.added; adds = to h.added h.adds; joined = h.joined; sound = h.sound }
HasAdded-along P Q to from before after false h = λ added more keys q fill. h added more keys (from added q) fill

-- two parts of a whole
pub record Parts (P Q R : List Leaf → Type 0) : Type 0 where
  pub once : (a b : List Leaf) → P a → P b → a ≡ b
  pub join : (a b : List Leaf) → P a → Q b → R (a ++ b)
  pub cut : (z : List Leaf) → R z → (a : List Leaf) × (b : List Leaf) × P a × Q b × (z ≡ a ++ b)

-- the first has joined, and then the second has or can't
pub HasAdded-then : (P Q R : List Leaf → Type 0) → Parts P Q R → (before middle after : Found) (b : Bool)
    → Joined P before middle → HasAdded Q middle after b → HasAdded R before after b
HasAdded-then P Q R parts before middle after true first second = record {
  added = first.added ++ second.added;
  adds = parts.join first.added second.added first.adds second.adds;
  joined = second.joined ∙ ap (λ l. l ++ second.added) first.joined ∙ append_assoc (leaves_in before.keys) first.added second.added;
  sound = second.sound;
}
HasAdded-then P Q R parts before middle after false first second = λ z more keys r fill.
    let c = parts.cut z r in
    let same : c.0 ≡ first.added = parts.once c.0 first.added c.2 first.adds in
    let all : leaves_in before.keys ++ (z ++ more) ≡ leaves_in middle.keys ++ (c.1 ++ more) =
    ap (λ l. leaves_in before.keys ++ l) (ap (λ l. l ++ more) (c.4 ∙ ap (λ a. a ++ c.1) same) ∙ append_assoc first.added c.1 more)
    ∙ sym (append_assoc (leaves_in before.keys) first.added (c.1 ++ more)) ∙ ap (λ l. l ++ (c.1 ++ more)) (sym first.joined) in
    second c.1 more keys c.3 (subst (λ l. Fill l keys) all fill)

-- the first can't
pub HasAdded-stops : (P Q R : List Leaf → Type 0) → Parts P Q R → (before middle after : Found)
    → HasAdded P before middle false → HasAdded R before after false
HasAdded-stops P Q R parts before middle after first = λ z more keys r fill.
    let c = parts.cut z r in
    let all : leaves_in before.keys ++ (z ++ more) ≡ leaves_in before.keys ++ (c.0 ++ (c.1 ++ more)) = ap (λ l. leaves_in before.keys ++ l) (ap (λ l. l ++ more) c.4 ∙ append_assoc c.0 c.1 more) in
    first c.0 (c.1 ++ more) keys c.2 (subst (λ l. Fill l keys) all fill)

-- ---- leaves behind some parts

pub under-append : (before : List Part) (xs ys : List Leaf)
    → under before (xs ++ ys) ≡ under before xs ++ under before ys
under-append before [] ys = refl
under-append before (leaf ∷ xs) ys = ap (λ rest. (before ++ leaf.0, leaf.1) ∷ rest) (under-append before xs ys)

pub under-within : (before : List Part) (part : Part) (xs : List Leaf)
    → under before (within part xs) ≡ under (before ++ part ∷ []) xs
under-within before part [] = refl
under-within before part (leaf ∷ xs) =
    λ i. (sym (append_assoc before (part ∷ []) leaf.0) i, leaf.1) ∷ under-within before part xs i

pub under-nothing : (xs : List Leaf) → under [] xs ≡ xs
under-nothing [] = refl
under-nothing (leaf ∷ xs) = ap (λ rest. leaf ∷ rest) (under-nothing xs)

filled-under : (before : List Part) (xs : List Leaf) → under before xs ≢ [] → xs ≢ []
filled-under before [] some = λ e. some refl
filled-under before (leaf ∷ xs) some = λ e. absurd cc

under-filled : (before : List Part) (xs : List Leaf) → xs ≢ [] → under before xs ≢ []
under-filled before [] some = λ e. some refl
under-filled before (leaf ∷ xs) some = λ e. absurd cc

if_some-filled : (xs : List Leaf) → xs ≢ [] → if_some xs ≡ Some xs
if_some-filled [] some = absurd (some refl)
if_some-filled (leaf ∷ xs) some = refl

pub value-once : (before : List Part) (d : Data) (a b : List Leaf) → ValueAdds before d a → ValueAdds before d b → a ≡ b
value-once before d a b p q = p.all ∙ ap (under before) (some_is p.here q.here (sym p.are ∙ q.are)) ∙ sym q.all

-- ---- elements

pub element-parts : (before : List Part) (index : ℕ) (d : Data) (ds : Items)
    → Parts (ItemAdds before index d) (ItemsAdd before (index + 1) ds) (ItemsAdd before index (item d ds))
element-parts before index d ds = record {
  once = λ a b p q. value-once (before ++ array_part index ∷ []) d a b p.value q.value;
  join = λ a b p q.
      let at = before ++ array_part index ∷ [] in
      let filled = filled-under at p.value.here (subst (λ l. l ≢ []) p.value.all p.some) in
      record {
        here = within (array_part index) p.value.here ++ q.here;
        named = (p.is_named, p.value.named, q.named);
        are = ap (λ o. joined (array_part index) (option_and_then if_some o) (items_leaves (index + 1) ds)) p.value.are
            ∙ ap (λ o. joined (array_part index) o (items_leaves (index + 1) ds)) (if_some-filled p.value.here filled)
            ∙ ap (λ o. joined (array_part index) (Some p.value.here) o) q.are;
        all =
            ap (λ l. l ++ b) p.value.all ∙ ap (λ l. under at p.value.here ++ l) q.all
            ∙ ap (λ l. l ++ under before q.here) (sym (under-within before (array_part index) p.value.here))
            ∙ sym (under-append before (within (array_part index) p.value.here) q.here);
      };
  cut = λ z r.
      let at = before ++ array_part index ∷ [] in
      let g = gives (array_part index) (option_and_then if_some (leaves d)) (items_leaves (index + 1) ds) r.here r.are in
      let some = some-leaves (leaves d) g.here g.of_first in (
        under at g.here,
        under before g.more,
        record { is_named = r.named.0; value = record { here = g.here; named = r.named.1; are = some.0; all = refl }; some = under-filled at g.here some.1 },
        record { here = g.more; named = r.named.2; are = g.of_later; all = refl },
        r.all ∙ ap (under before) (sym g.all) ∙ under-append before (within (array_part index) g.here) g.more ∙ ap (λ l. l ++ under before g.more) (under-within before (array_part index) g.here),
      );
}

pub no-elements : (before : List Part) (index : ℕ) (found : Found) → IsSound found
    → HasAdded (ItemsAdd before index no_items) found found true
no-elements before index found sound =
    record {
      added = [];
      adds = record { here = []; named = tt; are = refl; all = refl };
      joined = sym (append-nil (leaves_in found.keys));
      sound = sound;
    }

-- ---- members

unlike-joined : (name : Part) (first later : Option (List Leaf)) (ms : Members) → is_array_like name ≡ false
    → members_leaves ms ≡ later → (d : Data) → leaves d ≡ first
    → members_leaves (member name d ms) ≡ joined name first later
unlike-joined name first later ms unlike others d value = rw (unlike, others, value)

pub member-parts : (before : List Part) (name : Part) (d : Data) (ms : Members)
    → Parts (MemberAdds before name d) (MembersAdd before ms) (MembersAdd before (member name d ms))
member-parts before name d ms = record {
  once = λ a b p q. value-once (before ++ name ∷ []) d a b p.value q.value;
  join = λ a b p q.
      let at = before ++ name ∷ [] in
      record {
        here = within name p.value.here ++ q.here;
        named = (p.is_named, p.value.named, q.named);
        are = unlike-joined name (Some p.value.here) (Some q.here) ms p.unlike q.are d p.value.are;
        all =
            ap (λ l. l ++ b) p.value.all ∙ ap (λ l. under at p.value.here ++ l) q.all
            ∙ ap (λ l. l ++ under before q.here) (sym (under-within before name p.value.here))
            ∙ sym (under-append before (within name p.value.here) q.here);
      };
  cut = λ z r.
      let at = before ++ name ∷ [] in
      let both = gives-member (is_array_like name) name (leaves d) (members_leaves ms) r.here r.are in
      let g = both.1 in (
        under at g.here,
        under before g.more,
        record { unlike = both.0; is_named = r.named.0; value = record { here = g.here; named = r.named.1; are = g.of_first; all = refl } },
        record { here = g.more; named = r.named.2; are = g.of_later; all = refl },
        r.all ∙ ap (under before) (sym g.all) ∙ under-append before (within name g.here) g.more ∙ ap (λ l. l ++ under before g.more) (under-within before name g.here),
      );
}

pub no-more-members : (before : List Part) (found : Found) → IsSound found
    → HasAdded (MembersAdd before no_members) found found true
no-more-members before found sound =
    record {
      added = [];
      adds = record { here = []; named = tt; are = refl; all = refl };
      joined = sym (append-nil (leaves_in found.keys));
      sound = sound;
    }

-- ---- values

one-under : (before : List Part) (text : List ℕ) → under before (one_leaf text) ≡ (before, text) ∷ []
one-under before text = ap (λ parts. (parts, text) ∷ []) (append-nil before)

pub value-none : (before : List Part) (d : Data) → leaves d ≡ None → (found after : Found)
    → HasAdded (ValueAdds before d) found after false
value-none before d none found after = λ added more keys adds fill. none_is_no_some adds.here (sym none ∙ adds.are)

pub value-text : (before : List Part) (d : Data) (text : List ℕ) → AreNamed before d → leaves d ≡ Some (one_leaf text)
    → (found after : Found) (b : Bool) → HasAdded (λ added. added ≡ (before, text) ∷ []) found after b
    → HasAdded (ValueAdds before d) found after b
value-text before d text named are =
    HasAdded-along (λ added. added ≡ (before, text) ∷ []) (ValueAdds before d)
    (λ added is. record { here = one_leaf text; named = named; are = are; all = is ∙ sym (one-under before text) })
    (λ added adds. adds.all ∙ ap (under before) (some_is adds.here (one_leaf text) (sym adds.are ∙ are)) ∙ one-under before text)

pub value-items : (before : List Part) (ds : Items) (found after : Found) (b : Bool)
    → HasAdded (ItemsAdd before 0 ds) found after b → HasAdded (ValueAdds before (array ds)) found after b
value-items before ds =
    HasAdded-along (ItemsAdd before 0 ds) (ValueAdds before (array ds))
    (λ added adds. record { here = adds.here; named = adds.named; are = adds.are; all = adds.all })
    (λ added adds. record { here = adds.here; named = adds.named; are = adds.are; all = adds.all })

pub value-members : (before : List Part) (ms : Members) (found after : Found) (b : Bool)
    → HasAdded (MembersAdd before ms) found after b → HasAdded (ValueAdds before (object ms)) found after b
value-members before ms =
    HasAdded-along (MembersAdd before ms) (ValueAdds before (object ms))
    (λ added adds. record { here = adds.here; named = adds.named; are = adds.are; all = adds.all })
    (λ added adds. record { here = adds.here; named = adds.named; are = adds.are; all = adds.all })

-- what a number adds
abbrev pub NumberAdds : List Part → Num → List Leaf → Type 0
NumberAdds before n added = option_map (λ text. (before, text) ∷ []) (integer_text n) ≡ Some added

number-under : (before : List Part) (o : Option (List ℕ)) (added : List Leaf)
    → option_map (λ text. (before, text) ∷ []) o ≡ Some added
    → (here : List Leaf) × (option_map one_leaf o ≡ Some here) × (added ≡ under before here)
number-under before None added e = absurd (none_is_no_some added e)
number-under before (Some text) added e =
    (one_leaf text, refl, sym (some_is ((before, text) ∷ []) added e) ∙ sym (one-under before text))

number-over : (before : List Part) (o : Option (List ℕ)) (here : List Leaf) → option_map one_leaf o ≡ Some here
    → option_map (λ text. (before, text) ∷ []) o ≡ Some (under before here)
number-over before None here e = absurd (none_is_no_some here e)
number-over before (Some text) here e =
    ap Some (sym (one-under before text) ∙ ap (under before) (some_is (one_leaf text) here e))

pub value-number : (before : List Part) (n : Num) (found after : Found) (b : Bool)
    → HasAdded (NumberAdds before n) found after b → HasAdded (ValueAdds before (number n)) found after b
value-number before n =
    HasAdded-along (NumberAdds before n) (ValueAdds before (number n))
    (λ added is. let u = number-under before (integer_text n) added is in record { here = u.0; named = tt; are = u.1; all = u.2 })
    (λ added adds. number-over before (integer_text n) adds.here adds.are ∙ ap Some (sym adds.all))
