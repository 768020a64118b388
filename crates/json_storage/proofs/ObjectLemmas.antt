-- A leaf that comes before all others changes first members alone.
use Rattle.std.specs.Prelude.{◌≡◌, ℕ, zero, suc, ◌+◌, ◌<◌, ◌≤◌, Bool, true, false, T, List, [], ◌∷◌, length, map, take, drop, Some, None, slice_get, string_bytes, not, ◌↔◌}
use Rattle.std.proofs.Common.{refl, sym, ap, subst, ◌∙◌, cond, arith, inl, inr, String, Global, string_cmp}
use Rattle.std.specs.Bool.{Decides}
use Rattle.std.specs.Cmp.{tied_itself}
use Rattle.std.specs.FinMap as finite
use Rattle.std.specs.FinMap.{is_sorted}
use Rattle.std.specs.FinMap.Entries.{below_all}
use Rattle.std.specs.List.{AllByRecursion, All}
use Rattle.std.specs.Map.{keys_of}
use Rattle.std.specs.Ordering.{is_lt, match_ordering, ordering_then}
use Rattle.std.specs.declared.cmp.Ordering.{Ordering}
use Rattle.std.specs.declared.cmp.Ordering.TheVariants.{Less, Equal, Greater}
use Rattle.std.proofs.lemmas.Bool.{cond-true, cond-false}
use Rattle.std.proofs.lemmas.Cmp.{nat_list_cmp_total}
use Rattle.general_words.specs.Texts.{is_text, text_cmp}
use Rattle.general_words.proofs.Lists.{some_is}
use Rattle.general_words.proofs.Orders.{less}
use Rattle.general_words.proofs.Tests.{first, second}
use Rattle.general_words.proofs.Texts.{is_text-Decides, other_text, text_cmp-IsAntisymmetric}
use Rattle.model_names.specs.declared.namespaces.Namespace.TheVariants.{Cascading}
use Rattle.model_names.specs.Name.{Part, Name}
use Rattle.model_names.specs.Order.{name_cmp}
use Rattle.model_maps.specs.Entry.{Entry}
use Rattle.model_maps.specs.KeyMap.{KeyMap}
use Rattle.model_maps.specs.Limits.{IsLimitedKey, IsLimited}
use Rattle.serde_json.specs.Data.{Data, null, boolean, number, string, array, object, Members, no_members, member, put}
use Rattle.serde_json.specs.Find.{as_object}
use Rattle.serde_json.specs.View.{view, members_view}
use Rattle.serde_json.proofs.Views as views
use Rattle.model_json.specs.Tree.{empty, members_in, text_or, into, with_leaf, tree, leaf_of}
use Rattle.model_json.proofs.KeyLeaves.{each-entry}
use Rattle.model_json.proofs.TreeLemmas.{path_cmp, is_text-itself}
use Rattle.json_storage.specs.Writing.{between, cut_leaf, are_some, BeginsOther, BeginsWith, IsBefore, TakesFirst, LeadsFirst, ComesFirst}

-- ---- a text, where no members stand

pub text_or-some : (text : List ℕ) (d : Data) → are_some (members_in d) ≡ true → text_or text d ≡ d
text_or-some text null e = absurd cc
text_or-some text (boolean b) e = absurd cc
text_or-some text (number n) e = absurd cc
text_or-some text (string s) e = absurd cc
text_or-some text (array ds) e = absurd cc
text_or-some text (object no_members) e = absurd cc
text_or-some text (object (member name d ms)) e = refl

pub some-members : (es : List views.Entry) (b : Bool) → ((b ≡ true) ↔ (length es ≡ 0))
    → not b ≡ are_some (members_view es)
some-members [] true h = refl
some-members [] false h = let clash = h.1 refl in absurd cc
some-members (e ∷ es) true h = let none = h.0 refl in absurd (omega (arith, none))
some-members (e ∷ es) false h = refl

pub members-of : (d : Data) (ms : Members) → Some ms ≡ as_object d → members_in d ≡ ms
members-of null ms is = absurd cc
members-of (boolean b) ms is = absurd cc
members-of (number n) ms is = absurd cc
members-of (string s) ms is = absurd cc
members-of (array ds) ms is = absurd cc
members-of (object other) ms is = some_is other ms (sym is)

pub members-nowhere : (d : Data) → None ≡ as_object d → false ≡ are_some (members_in d)
members-nowhere null is = refl
members-nowhere (boolean b) is = refl
members-nowhere (number n) is = refl
members-nowhere (string s) is = refl
members-nowhere (array ds) is = refl
members-nowhere (object other) is = absurd cc

pub text_or-none : (text : List ℕ) (d : Data) → are_some (members_in d) ≡ false → text_or text d ≡ string text
text_or-none text null e = refl
text_or-none text (boolean b) e = refl
text_or-none text (number n) e = refl
text_or-none text (string s) e = refl
text_or-none text (array ds) e = refl
text_or-none text (object no_members) e = refl
text_or-none text (object (member name d ms)) e = absurd cc

-- ---- the first member

pub put-before : (part : Part) (d : Data) (ms : Members) → IsBefore part ms → put part d ms ≡ member part d ms
put-before part d no_members before = refl
put-before part d (member name e ms) before =
    ap (λ o. match_ordering o (member part d (member name e ms)) (member name d ms) (member name e (put part d ms))) before

into-new : (part : Part) (change : Data → Data) (ms : Members) → BeginsOther part ms
    → into part change ms ≡ member part (change empty) ms
into-new part change no_members other = refl
into-new part change (member name d ms) other = cond-false (is_text part name) _ _ (other_text part name other)

into-there : (part : Part) (change : Data → Data) (d : Data) (ms : Members)
    → into part change (member part d ms) ≡ member part (change d) ms
into-there part change d ms = cond-true (is_text part part) _ _ (is_text-itself part)

-- a leaf goes on in what was taken out
leaf-first : (part : Part) (parts : List Part) (text : List ℕ) (d first : Data) (after : Members)
    → TakesFirst part (members_in d) after first
    → object (member part (with_leaf parts text first) after) ≡ with_leaf (part ∷ parts) text d
leaf-first part parts text d first after (inl there) =
    ap object (sym (ap (into part (with_leaf parts text)) there.0 ∙ into-there part (with_leaf parts text) first after))
leaf-first part parts text d first after (inr other) =
    (λ i. object (member part (with_leaf parts text (other.2 i)) (other.1 i)))
    ∙ ap object (sym (into-new part (with_leaf parts text) (members_in d) other.0))

pub leaf-joined : (part : Part) (parts all : List Part) (text : List ℕ) (d first changed made : Data)
    (before after : Members) → all ≡ part ∷ parts → before ≡ members_in d → TakesFirst part before after first
    → changed ≡ with_leaf parts text first → made ≡ object (member part changed after)
    → made ≡ with_leaf all text d
leaf-joined part parts all text d first changed made before after cut is taken grown built =
    built ∙ ap (λ (e : Data). object (member part e after)) grown
    ∙ leaf-first part parts text d first after (subst (λ (ms : Members). TakesFirst part ms after first) is taken)
    ∙ ap (λ ps. with_leaf ps text d) (sym cut)

pub first-in-nothing : (parts : List Part) → ComesFirst parts empty
first-in-nothing [] = tt
first-in-nothing (part ∷ parts) = tt

not-less : (part : Part) → text_cmp part part ≡ Less → ⊥
not-less part e = let clash : ◌≡◌ {A = Ordering} Less Equal = sym e ∙ tied_itself nat_list_cmp_total part in absurd cc

leads-there : (part : Part) (parts : List Part) (first : Data) (after : Members)
    → LeadsFirst part (ComesFirst parts) (member part first after) → ComesFirst parts first
leads-there part parts first after (inl before) = absurd (not-less part before)
leads-there part parts first after (inr goes) = goes.1

goes-first : (part : Part) (parts : List Part) (before after : Members) (first : Data)
    → LeadsFirst part (ComesFirst parts) before → TakesFirst part before after first → ComesFirst parts first
goes-first part parts before after first leads (inl there) =
    leads-there part parts first after (subst (LeadsFirst part (ComesFirst parts)) there.0 leads)
goes-first part parts before after first leads (inr other) =
    subst (ComesFirst parts) (sym other.2) (first-in-nothing parts)

leads-before : (part : Part) (Goes : Data → Type 0) (ms : Members) → LeadsFirst part Goes ms → BeginsOther part ms
    → IsBefore part ms
leads-before part Goes no_members leads other = tt
leads-before part Goes (member name d ms) (inl before) other = before
leads-before part Goes (member name d ms) (inr goes) other = absurd (other goes.0)

stands-before : (part : Part) (parts : List Part) (before after : Members) (first : Data)
    → LeadsFirst part (ComesFirst parts) before → TakesFirst part before after first → IsBefore part after
stands-before part parts before after first leads (inl there) = there.1
stands-before part parts before after first leads (inr other) =
    subst (IsBefore part) (sym other.1) (leads-before part (ComesFirst parts) before leads other.0)

-- what a leaf that comes first leaves for the rest of its parts, and for the members behind
pub leads-on-first : (part : Part) (parts all : List Part) (d first : Data) (before after : Members)
    → all ≡ part ∷ parts → before ≡ members_in d → ComesFirst all d → TakesFirst part before after first
    → ComesFirst parts first × IsBefore part after
leads-on-first part parts all d first before after cut is comes taken =
    let leads : LeadsFirst part (ComesFirst parts) before = subst (LeadsFirst part (ComesFirst parts)) (sym is) (subst (λ ps. ComesFirst ps d) cut comes) in
    (goes-first part parts before after first leads taken, stands-before part parts before after first leads taken)

-- ---- the first entry of a map

pub above-first : (name : String Global) (es : List views.Entry) → All (λ k. string_cmp name k ≡ Less) (keys_of es)
    → IsBefore (string_bytes name) (members_view es)
above-first name [] all = tt
above-first name (e ∷ es) all = all 0 name (omega arith)

begins-decides : (part : Part) (x e : views.Entry) (es : List views.Entry) → x ≡ e
    → Decides (is_text part (string_bytes e.0)) (BeginsWith part (members_view (x ∷ es)))
begins-decides part x e es is =
    subst (λ (y : views.Entry). Decides (is_text part (string_bytes e.0)) (part ≡ string_bytes y.0)) (sym is) (is_text-Decides part (string_bytes e.0))

pub begins-with : (part : Part) (es : List views.Entry) (e : views.Entry) → slice_get es 0 ≡ Some e
    → Decides (is_text part (string_bytes e.0)) (BeginsWith part (members_view es))
begins-with part [] e is = absurd cc
begins-with part (x ∷ es) e is = begins-decides part x e es (some_is x e is)

pub begins-somewhere : (part : Part) (es : List views.Entry) → BeginsWith part (members_view es) → 0 < length es
begins-somewhere part [] h = absurd h
begins-somewhere part (x ∷ es) h = omega arith

-- what was taken out is the first entry
pub took-first : (part : Part) (old new : List views.Entry) (e : views.Entry) → old ≡ e ∷ new
    → All (λ k. string_cmp e.0 k ≡ Less) (keys_of new) → BeginsWith part (members_view old)
    → TakesFirst part (members_view old) (members_view new) (view e.1)
took-first part old new e is all begins =
    let same : part ≡ string_bytes e.0 = subst (λ es. BeginsWith part (members_view es)) is begins in
    inl (ap members_view is ∙ (λ i. member (sym same i) (view e.1) (members_view new)), subst (λ p. IsBefore p (members_view new)) (sym same) (above-first e.0 new all))

pub begins-other : (part : Part) (ms : Members) → (BeginsWith part ms → ⊥) → BeginsOther part ms
begins-other part no_members other = tt
begins-other part (member name d ms) other = other

-- ---- which leaf comes first

leads-by : (part : Part) (Goes : Data → Type 0) (b : Bool) (name : Part) (d e : Data) (ms ns : Members)
    → LeadsFirst part Goes (member name d ms) → LeadsFirst part Goes (member name e ns)
    → LeadsFirst part Goes (cond b (member name d ms) (member name e ns))
leads-by part Goes true name d e ms ns h k = h
leads-by part Goes false name d e ms ns h k = k

leads-into : (part first : Part) (Goes : Data → Type 0) (change : Data → Data) (ms : Members)
    → ((d : Data) (ns : Members) → LeadsFirst part Goes (member first (change d) ns))
    → LeadsFirst part Goes (into first change ms)
leads-into part first Goes change no_members leads = leads empty no_members
leads-into part first Goes change (member name d ms) leads =
    leads-by part Goes (is_text first name) first (change d) (change empty) ms (member name d ms) (leads d ms) (leads empty (member name d ms))

leads-on : (part next : Part) (ps qs : List Part) (text : List ℕ)
    → ((e : Data) → (path_cmp ps qs ≡ Greater → ⊥) → ComesFirst ps (with_leaf qs text e)) → (o : Ordering)
    → text_cmp part next ≡ o → (ordering_then o (path_cmp ps qs) ≡ Greater → ⊥)
    → (e : Data) (ns : Members) → LeadsFirst part (ComesFirst ps) (member next (with_leaf qs text e) ns)
leads-on part next ps qs text rest Less is within e ns = inl is
leads-on part next ps qs text rest Equal is within e ns = inr (text_cmp-IsAntisymmetric part next is, rest e within)
leads-on part next ps qs text rest Greater is within e ns = absurd (within refl)

comes-first : (ps qs : List Part) (text : List ℕ) (d : Data) → (path_cmp ps qs ≡ Greater → ⊥)
    → ComesFirst ps (with_leaf qs text d)
comes-first [] qs text d within = tt
comes-first (part ∷ ps) [] text d within = absurd (within refl)
comes-first (part ∷ ps) (next ∷ qs) text d within =
    leads-into part next (ComesFirst ps) (with_leaf qs text) (members_in d) (leads-on part next ps qs text (λ e other. comes-first ps qs text e other) (text_cmp part next) refl within)

then-not-greater : (o a b : Ordering) → ordering_then o a ≡ Less → (a ≡ Less → b ≡ Greater → ⊥)
    → ordering_then o b ≡ Greater → ⊥
then-not-greater Less a b less not h = absurd cc
then-not-greater Equal a b less not h = not less h
then-not-greater Greater a b less not h = absurd cc

-- two paths whose ends are cut off keep their order
not-greater : (most : ℕ) (ps qs : List Part) → path_cmp ps qs ≡ Less → path_cmp (take most ps) (take most qs) ≡ Greater
    → ⊥
not-greater zero ps qs less h = absurd cc
not-greater (suc most) [] [] less h = absurd cc
not-greater (suc most) [] (q ∷ qs) less h = absurd cc
not-greater (suc most) (p ∷ ps) [] less h = absurd cc
not-greater (suc most) (p ∷ ps) (q ∷ qs) less h =
    then-not-greater (text_cmp p q) (path_cmp ps qs) (path_cmp (take most ps) (take most qs)) less (not-greater most ps qs) h

by-parts : (a b : Name) → a.namespace ≡ Cascading → b.namespace ≡ Cascading → name_cmp a b ≡ path_cmp a.parts b.parts
by-parts a b p q =
    λ i. name_cmp (record { namespace = p i; parts = a.parts }) (record { namespace = q i; parts = b.parts })

abbrev pub IsCascading : Name × Entry → Type 0
IsCascading key = key.0.namespace ≡ Cascading

before-next : (most : ℕ) (key : Name × Entry) (es : List (Name × Entry)) → IsCascading key
    → AllByRecursion IsCascading es → T (below_all name_cmp key.0 es)
    → ComesFirst (take most key.0.parts) (tree (map (cut_leaf most) (map leaf_of es)))
before-next most key [] cascading all below = first-in-nothing (take most key.0.parts)
before-next most key (next ∷ es) cascading all below =
    let less_names : name_cmp key.0 next.0 ≡ Less = less (name_cmp key.0 next.0) (first (is_lt (name_cmp key.0 next.0)) (below_all name_cmp key.0 es) below) in
    comes-first (take most key.0.parts) (take most next.0.parts) next.1.value (tree (map (cut_leaf most) (map leaf_of es)))
    (not-greater most key.0.parts next.0.parts (sym (by-parts key.0 next.0 cascading all.0) ∙ less_names))

-- each key comes before those behind it
pub comes-before : (most : ℕ) (es : List (Name × Entry)) (i : ℕ) (key : Name × Entry) → AllByRecursion IsCascading es
    → T (is_sorted name_cmp es) → slice_get es i ≡ Some key
    → ComesFirst (take most key.0.parts) (tree (map (cut_leaf most) (map leaf_of (drop (suc i) es))))
comes-before most [] i key all sorted is = absurd cc
comes-before most (x ∷ es) zero key all sorted is =
    subst (λ (k : Name × Entry). ComesFirst (take most k.0.parts) (tree (map (cut_leaf most) (map leaf_of es)))) (some_is x key is)
    (before-next most x es all.0 all.1 (first (below_all name_cmp x.0 es) (is_sorted name_cmp es) sorted))
comes-before most (x ∷ es) (suc i) key all sorted is =
    comes-before most es i key all.1 (second (below_all name_cmp x.0 es) (is_sorted name_cmp es) sorted) is

-- ---- places in lists

pub got-next : {A : Type 0} (xs : List A) (i : ℕ) (x : A) → slice_get xs i ≡ Some x → drop i xs ≡ x ∷ drop (suc i) xs
got-next [] i x is = absurd cc
got-next (y ∷ xs) zero x is = ap (λ z. z ∷ xs) (some_is y x is)
got-next (y ∷ xs) (suc i) x is = got-next xs i x is

pub got-none : {A : Type 0} (xs : List A) (i : ℕ) → slice_get xs i ≡ None → drop i xs ≡ []
got-none [] zero is = refl
got-none [] (suc i) is = refl
got-none (y ∷ xs) zero is = absurd cc
got-none (y ∷ xs) (suc i) is = got-none xs i is

pub got-before : {A : Type 0} (xs : List A) (end i : ℕ) → i < end → slice_get (take end xs) i ≡ slice_get xs i
got-before xs zero i within = absurd (omega (arith, within))
got-before [] (suc end) i within = refl
got-before (x ∷ xs) (suc end) zero within = refl
got-before (x ∷ xs) (suc end) (suc i) within = got-before xs end i (omega (arith, within))

pub none-behind : {A : Type 0} (xs : List A) (end i : ℕ) → end ≤ i → drop i (take end xs) ≡ []
none-behind xs zero zero within = refl
none-behind xs zero (suc i) within = refl
none-behind [] (suc end) zero within = refl
none-behind [] (suc end) (suc i) within = refl
none-behind (x ∷ xs) (suc end) zero within = absurd (omega (arith, within))
none-behind (x ∷ xs) (suc end) (suc i) within = none-behind xs end i (omega (arith, within))

-- the parts of a name from one on, before an end
pub part-there : (parts : List Part) (from end : ℕ) (part : Part) → from < end → Some part ≡ slice_get parts from
    → between from end parts ≡ part ∷ between (from + 1) end parts
part-there parts from end part within is =
    let on : suc from ≡ from + 1 = omega arith in
    got-next (take end parts) from part (got-before parts end from within ∙ sym is)
    ∙ ap (λ n. part ∷ drop n (take end parts)) on

pub part-nowhere : (parts : List Part) (from end : ℕ) → from < end → None ≡ slice_get parts from
    → between from end parts ≡ []
part-nowhere parts from end within is = got-none (take end parts) from (got-before parts end from within ∙ sym is)

pub take-all : {A : Type 0} (xs : List A) (n : ℕ) → length xs ≤ n → take n xs ≡ xs
take-all [] zero within = refl
take-all [] (suc n) within = refl
take-all (x ∷ xs) zero within = absurd (omega (arith, within))
take-all (x ∷ xs) (suc n) within = ap (λ ys. x ∷ ys) (take-all xs n (omega (arith, within)))

-- ---- keys

cascading-all : (es : List (Name × Entry)) → AllByRecursion (λ (key : Name × Entry). IsLimitedKey key.0 key.1) es
    → AllByRecursion IsCascading es
cascading-all [] h = tt
cascading-all (key ∷ es) h = (h.0.cascading, cascading-all es h.1)

pub all-cascading : (keys : KeyMap) → IsLimited keys → AllByRecursion IsCascading (finite.entries keys)
all-cascading keys limited = cascading-all (finite.entries keys) (each-entry IsLimitedKey keys limited.each)

pub absent-key : (es : List (Name × Entry)) (i : ℕ) → i < length es → None ≡ slice_get es i → ⊥
absent-key [] i within none = absurd (omega (arith, within))
absent-key (key ∷ es) zero within none = absurd cc
absent-key (key ∷ es) (suc i) within none = absent-key es i (omega (arith, within)) none
