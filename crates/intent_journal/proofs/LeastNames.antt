-- The least file above a name, among the files of a list.
use Rattle.std.proofs.Common.{below_more as next_place, ◌≡◌, ◌≢◌, ◌⊎◌, inl, inr, ℕ, zero, suc, ◌+◌, ◌-◌, ◌*◌, ◌<◌, ◌≤◌, T, Bool, true, false, cond, ◌&&◌, List, [], ◌∷◌, ◌++◌, length, take, drop, slice_index_or, bytes_eq, Ordering, Less, Equal, Greater, Option, Some, None, Result, Ok, Err, OnOk, slice_get, refl, sym, ap, ap₂, subst, ◌∙◌, arith, append_assoc, append-nil, length-append}
use Rattle.std.specs.Cmp.{both_ways}
use Rattle.std.specs.List.{AllByRecursion}
use Rattle.std.proofs.lemmas.List.{drop_more}
use Rattle.std.proofs.lemmas.Option.{none-some}
use Rattle.std.proofs.lemmas.Slice.Eq.{bytes_eq-Decides}
use Rattle.std.specs.FinMap as map
use Rattle.std.specs.FinMap.{is_sorted, put}
use Rattle.std.specs.FinMap.Entries.{below_all, by_order}
use Rattle.std.specs.Ordering.{nat_cmp, is_lt, is_le, ordering_reverse, eq_by_cmp}
use Rattle.std.specs.Cmp.Lexicographic.{slice_cmp, nat_list_cmp_total}
use Rattle.general_words.proofs.Entries.{below_further, find-there}
use Rattle.general_words.proofs.Lists.{take-next, cut-next, some_is}
use Rattle.general_words.proofs.Places.{there_is}
use Rattle.general_words.proofs.Lookups.{tied_or_not}
use Rattle.general_words.proofs.Maps.{entries-empty}
use Rattle.general_words.proofs.Orders.{itself, less}
use Rattle.general_words.proofs.Tests.{first, second}
use Rattle.general_words.proofs.Texts.{text_cmp-IsAntisymmetric}
use Rattle.kdb_outside.specs.declared.faults.Failed.{Failed}
use Rattle.kdb_outside.specs.Images.{Only, KeepsOtherImages}
use Rattle.journal_codec.specs.declared.files.FileText.{FileText}
use Rattle.journal_codec.specs.Entry.{IsEntry}
use Rattle.journal_steps.specs.Outcomes.{content_in}
use Rattle.journal_lists.specs.Grammar.{most_entries}
use Rattle.journal_lists.specs.Lists.{as_one}
use Rattle.intent_journal.specs.States.{HasBrought}
use Rattle.intent_journal.specs.Pending.{HasBroughtTo, Content, content_of, contents_of, pending_in, is_above, is_no_later, better, least, first_above}

-- the order of names
abbrev R : List ℕ → List ℕ → Ordering
R = slice_cmp nat_cmp

-- ---- a sorted list of contents

head_below : (x : List ℕ) (e : Content) (es : List Content) → T (below_all R x (e ∷ es)) → R x e.0 ≡ Less
head_below x e es below = less (R x e.0) (first (is_lt (R x e.0)) (below_all R x es) below)

rest_below : (x : List ℕ) (e : Content) (es : List Content) → T (below_all R x (e ∷ es)) → T (below_all R x es)
rest_below x e es below = second (is_lt (R x e.0)) (below_all R x es) below

-- what is found stands above what all stand above
found_above : (after : Option (List ℕ)) (x : List ℕ) (es : List Content) (b : Content) → T (below_all R x es)
    → first_above after es ≡ Some b → R x b.0 ≡ Less
found_above after x [] b below found = absurd (cc)
found_above after x (e ∷ es) b below found =
    by (is_above after e.0) found (found_above after x es b (rest_below x e es below))
  where
    by : (c : Bool) → cond c (Some e) (first_above after es) ≡ Some b → (first_above after es ≡ Some b → R x b.0 ≡ Less)
        → R x b.0 ≡ Less
    by true is further = let same : e ≡ b = cc in subst (λ (y : Content). R x y.0 ≡ Less) same (head_below x e es below)
    by false is further = further is

-- one that stands below all is no later than what is found
below_is_no_later : (after : Option (List ℕ)) (k v : List ℕ) (es : List Content) (o : Option Content)
    → T (below_all R k es) → first_above after es ≡ o → is_no_later (k, v) o ≡ true
below_is_no_later after k v es None below found = refl
below_is_no_later after k v es (Some b) below found = ap is_le (found_above after k es b below found)

abbrev content : List ℕ → List ℕ → Content
content k v = (k, v)

-- a content more: the least above a name is the better one of it and of the least before
pub better-put : (after : Option (List ℕ)) (k v : List ℕ) (es : List Content) → T (is_sorted R es)
    → better after (content k v) (first_above after es) ≡ first_above after (put R k v es)
better-put after k v [] sorted = by (is_above after k)
  where
    by : (c : Bool) → cond (c && true) (Some (content k v)) None ≡ cond c (Some (content k v)) None
    by true = refl
    by false = refl
better-put after k v (e ∷ es) sorted =
    by (R k e.0) refl (better-put after k v es (second (below_all R e.0 es) (is_sorted R es) sorted))
  where
    above : List ℕ → Bool
    above name = is_above after name

    taken : (c d : Bool) (x : Content) (o : Option Content) → (c ≡ true → d ≡ true)
        → cond (c && d) (Some x) o ≡ cond c (Some x) o
    taken true true x o h = refl
    taken true false x o h = absurd (let bad : false ≡ true = h refl in cc)
    taken false d x o h = refl

    tied : (c : Bool) → is_above after e.0 ≡ c → is_above after k ≡ c → R k e.0 ≡ Equal → k ≡ e.0
        → cond (is_above after k && is_no_later (content k v) (cond c (Some e) (first_above after es))) (Some (content k v)) (cond c (Some e) (first_above after es))
        ≡ cond c (Some (content e.0 v)) (first_above after es)
    tied true is above_k equal same =
        ap₂ (λ (a b : Bool). cond (a && b) (Some (content k v)) (Some e)) above_k (ap is_le equal)
        ∙ ap (λ (x : List ℕ). Some (content x v)) same
    tied false is above_k equal same =
        ap (λ (a : Bool). cond (a && is_no_later (content k v) (first_above after es)) (Some (content k v)) (first_above after es)) above_k

    later : (c : Bool) → R k e.0 ≡ Greater
        → better after (content k v) (first_above after es) ≡ first_above after (put R k v es)
        → cond (is_above after k && is_no_later (content k v) (cond c (Some e) (first_above after es))) (Some (content k v)) (cond c (Some e) (first_above after es))
        ≡ cond c (Some e) (first_above after (put R k v es))
    later true greater further = shut (is_above after k) (is_le (R k e.0)) (ap is_le greater)
      where
        shut : (a b : Bool) → b ≡ false → cond (a && b) (Some (content k v)) (Some e) ≡ Some e
        shut true true is = absurd (cc)
        shut true false is = refl
        shut false b is = refl
    later false greater further = further

    by : (o : Ordering) → R k e.0 ≡ o
        → better after (content k v) (first_above after es) ≡ first_above after (put R k v es)
        → better after (content k v) (first_above after (e ∷ es))
        ≡ first_above after (by_order o (content k v ∷ e ∷ es) (content e.0 v ∷ es) (e ∷ put R k v es))
    by Less less further =
        taken (is_above after k) (is_no_later (content k v) (first_above after (e ∷ es))) (content k v) (first_above after (e ∷ es))
        (λ _. below_is_no_later after k v (e ∷ es) (first_above after (e ∷ es)) (below_head less) refl)
      where
        below_head : R k e.0 ≡ Less → T (below_all R k (e ∷ es))
        below_head is =
            subst (λ o. T (is_lt o && below_all R k es)) (sym is) (below_further nat_list_cmp_total k e.0 es is (first (below_all R e.0 es) (is_sorted R es) sorted))
    by Equal equal further =
        let same : k ≡ e.0 = text_cmp-IsAntisymmetric k e.0 equal in
        tied (is_above after e.0) refl (ap above same) equal same
    by Greater greater further = later (is_above after e.0) greater further

-- the least among texts is the first of their contents by name
pub least-contents : (after : Option (List ℕ)) (texts : List FileText)
    → least after texts None ≡ first_above after (map.entries (contents_of texts))
least-contents after [] = sym (ap (first_above after) (entries-empty R (List ℕ)))
least-contents after (text ∷ texts) =
    ap (better after (content_of text)) (least-contents after texts)
    ∙ better-put after text.file text.bytes (map.entries (contents_of texts)) (map.entries_sorted (contents_of texts))
    ∙ sym (ap (first_above after) (map.entries-insert nat_list_cmp_total (contents_of texts) text.file text.bytes))

-- ---- the contents one after the other

first_of_all : (x : List ℕ) (es : List Content) → T (below_all R x es) → first_above (Some x) es ≡ slice_get es 0
first_of_all x [] below = refl
first_of_all x (e ∷ es) below = ap (λ o. cond (is_lt o) (Some e) (first_above (Some x) es)) (head_below x e es below)

-- the first one
pub first_above-none : (es : List Content) → first_above None es ≡ slice_get es 0
first_above-none [] = refl
first_above-none (e ∷ es) = refl

below_there : (x : List ℕ) (es : List Content) (i : ℕ) (e : Content) → T (below_all R x es) → slice_get es i ≡ Some e
    → R x e.0 ≡ Less
below_there x [] i e below found = absurd (cc)
below_there x (h ∷ es) zero e below found =
    let same : h ≡ e = cc in subst (λ (y : Content). R x y.0 ≡ Less) same (head_below x h es below)
below_there x (h ∷ es) (suc i) e below found = below_there x es i e (rest_below x h es below) found

turned_less : (x y : List ℕ) → R x y ≡ Less → is_lt (R y x) ≡ false
turned_less x y less = ap is_lt (nat_list_cmp_total.antisymm y x ∙ ap ordering_reverse less)

not_itself : (x : List ℕ) → is_lt (R x x) ≡ false
not_itself x = by (R x x) (nat_list_cmp_total.antisymm x x)
  where
    by : (o : Ordering) → o ≡ ordering_reverse o → is_lt o ≡ false
    by Less is = absurd (cc)
    by Equal is = refl
    by Greater is = refl

-- and the one behind another
pub first_above-next : (es : List Content) (i : ℕ) (e : Content) → T (is_sorted R es) → slice_get es i ≡ Some e
    → first_above (Some e.0) es ≡ slice_get es (i + 1)
first_above-next [] i e sorted found = absurd (cc)
first_above-next (h ∷ es) zero e sorted found =
    let same : h ≡ e = cc in
    subst (λ (y : Content). first_above (Some y.0) (h ∷ es) ≡ slice_get es 0) same
    (ap (λ (b : Bool). cond b (Some h) (first_above (Some h.0) es)) (not_itself h.0) ∙ first_of_all h.0 es (first (below_all R h.0 es) (is_sorted R es) sorted))
first_above-next (h ∷ es) (suc i) e sorted found =
    let below = below_there h.0 es i e (first (below_all R h.0 es) (is_sorted R es) sorted) found in
    let next : suc i + 1 ≡ suc (i + 1) = omega arith in
    ap (λ (b : Bool). cond b (Some h) (first_above (Some e.0) es)) (turned_less h.0 e.0 below)
    ∙ first_above-next es i e (second (below_all R h.0 es) (is_sorted R es) sorted) found
    ∙ sym (ap (λ n. slice_get (h ∷ es) n) next)

-- behind the end nothing comes
pub none_next : (es : List Content) (i : ℕ) → slice_get es i ≡ None → slice_get es (i + 1) ≡ None
none_next [] i none = refl
none_next (h ∷ es) zero none = absurd (cc)
none_next (h ∷ es) (suc i) none =
    let next : suc i + 1 ≡ suc (i + 1) = omega arith in
    ap (λ n. slice_get (h ∷ es) n) next ∙ none_next es i none

-- ---- texts of several entries

pub least-append : (after : Option (List ℕ)) (texts others : List FileText) (best : Option Content)
    → least after (texts ++ others) best ≡ least after texts (least after others best)
least-append after [] others best = refl
least-append after (text ∷ texts) others best =
    ap (better after (content_of text)) (least-append after texts others best)

pub as_one-append : (entries more : List (List FileText)) → as_one (entries ++ more) ≡ as_one more ++ as_one entries
as_one-append [] more = sym (append-nil (as_one more))
as_one-append (entry ∷ entries) more =
    ap (λ (l : List FileText). l ++ entry) (as_one-append entries more)
    ∙ append_assoc (as_one more) (as_one entries) entry

pub least-more : (after : Option (List ℕ)) (list : List (List FileText)) (i : ℕ) (entry : List FileText)
    → Some entry ≡ slice_get list i
    → least after entry (least after (as_one (take i list)) None) ≡ least after (as_one (take (i + 1) list)) None
least-more after list i entry found =
    sym (ap (λ (l : List (List FileText)). least after (as_one l) None) (take-next list i entry found)
    ∙ ap (λ (l : List FileText). least after l None) (as_one-append (take i list) (entry ∷ []))
    ∙ least-append after entry (as_one (take i list)) None)

-- a list's end, from the last element on
pub drop_before : (texts : List FileText) (i : ℕ) (x : FileText) → i < length texts
    → x ≡ slice_index_or texts (length texts - 1 - i) x
    → drop (length texts - (i + 1)) texts ≡ x ∷ drop (length texts - i) texts
drop_before texts i x within is =
    let n = length texts - (i + 1) in
    let there : length texts - 1 - i ≡ n = omega arith in
    let next : n + 1 ≡ length texts - i = omega arith in
    drop_more texts n x (omega arith)
    ∙ ap (λ y. y ∷ drop (n + 1) texts) (sym (is ∙ ap (λ k. slice_index_or texts k x) there))
    ∙ ap (λ k. x ∷ drop k texts) next

-- ---- how many there are

pub past_end : (es : List Content) (n : ℕ) → slice_get es n ≡ None → length es ≤ n
past_end [] n none = omega arith
past_end (e ∷ es) zero none = absurd (cc)
past_end (e ∷ es) (suc n) none = let rest = past_end es n none in omega arith

put_few : (k v : List ℕ) (es : List Content) → length (put R k v es) ≤ 1 + length es
put_few k v [] = omega arith
put_few k v (e ∷ es) = by (R k e.0) (put_few k v es)
  where
    by : (o : Ordering) → length (put R k v es) ≤ 1 + length es
        → length (by_order o (content k v ∷ e ∷ es) (content e.0 v ∷ es) (e ∷ put R k v es)) ≤ 1 + length (e ∷ es)
    by Less few = omega arith
    by Equal few = omega arith
    by Greater few = omega arith

contents_few : (texts : List FileText) → length (map.entries (contents_of texts)) ≤ length texts
contents_few [] = let none = ap length (entries-empty R (List ℕ)) in omega arith
contents_few (text ∷ texts) =
    let added = ap length (map.entries-insert nat_list_cmp_total (contents_of texts) text.file text.bytes) in
    let put = put_few text.file text.bytes (map.entries (contents_of texts)) in
    let others = contents_few texts in
    omega arith

texts_few : (list : List (List FileText)) → AllByRecursion IsEntry list → length (as_one list) ≤ 64 * length list
texts_few [] each = omega arith
texts_few (entry ∷ list) each =
    let others = texts_few list each.1 in
    let few = each.0.not_many in
    omega (arith, length-append (as_one list) entry)

pub pending_few : (list : List (List FileText)) → length list ≤ most_entries → AllByRecursion IsEntry list
    → length (pending_in list) ≤ 2048
pending_few list few each =
    let texts = texts_few list each in
    let contents = contents_few (as_one list) in
    omega arith

-- ---- what stands at a place

names_alike : (x y : List ℕ) → bytes_eq y x ≡ eq_by_cmp R x y
names_alike x y =
    both_ways (bytes_eq y x) (eq_by_cmp R x y) (λ same. forth ((bytes_eq-Decides y x).0 same)) (λ tied. (bytes_eq-Decides y x).1 (sym (back (tied_or_not text_cmp-IsAntisymmetric x y) tied)))
  where
    forth : y ≡ x → eq_by_cmp R x y ≡ true
    forth same = subst (λ z. eq_by_cmp R x z ≡ true) (sym same) (itself nat_list_cmp_total x)

    back : (eq_by_cmp R x y ≡ false) ⊎ ((eq_by_cmp R x y ≡ true) × (x ≡ y)) → eq_by_cmp R x y ≡ true → x ≡ y
    back (inl apart) tied = absurd (cc)
    back (inr same) tied = same.1

get_content : (texts : List FileText) (file : List ℕ) → map.get (contents_of texts) file ≡ content_in texts file
get_content [] file = map.get-empty R file
get_content (text ∷ texts) file =
    map.get-insert nat_list_cmp_total (contents_of texts) text.file text.bytes file
    ∙ ap₂ (λ (b : Bool) (o : Option (List ℕ)). cond b (Some text.bytes) o) (sym (names_alike file text.file)) (get_content texts file)

-- a content at a place is the one that the list has for its file
pub content_there : (list : List (List FileText)) (i : ℕ) (e : Content) → Some e ≡ slice_get (pending_in list) i
    → content_in (as_one list) e.0 ≡ Some e.1
content_there list i e found =
    let m = contents_of (as_one list) in
    let cut = cut-next (map.entries m) i e found in
    sym (get_content (as_one list) e.0) ∙ map.get-entries m e.0 ∙ ap (map.find R e.0) cut
    ∙ find-there nat_list_cmp_total (take i (map.entries m)) e (drop (i + 1) (map.entries m)) (subst (λ es. T (is_sorted R es)) cut (map.entries_sorted m))

-- names at two places differ
less_places : (es : List Content) (j i : ℕ) (a b : Content) → T (is_sorted R es) → j < i → slice_get es j ≡ Some a
    → slice_get es i ≡ Some b → R a.0 b.0 ≡ Less
less_places [] j i a b sorted lt at_j at_i = absurd (cc)
less_places (h ∷ es) j zero a b sorted lt at_j at_i = absurd (omega arith)
less_places (h ∷ es) zero (suc i) a b sorted lt at_j at_i =
    let same : h ≡ a = cc in
    subst (λ (y : Content). R y.0 b.0 ≡ Less) same (below_there h.0 es i b (first (below_all R h.0 es) (is_sorted R es) sorted) at_i)
less_places (h ∷ es) (suc j) (suc i) a b sorted lt at_j at_i =
    less_places es j i a b (second (below_all R h.0 es) (is_sorted R es) sorted) (omega arith) at_j at_i

apart : (x y : List ℕ) → R x y ≡ Less → x ≢ y
apart x y less same =
    let itself_less : R x x ≡ Less = subst (λ z. R x z ≡ Less) (sym same) less in
    let never : is_lt (R x x) ≡ false = not_itself x in
    let both : is_lt (R x x) ≡ true = ap is_lt itself_less in
    cc

-- one more file has its content
pub brought_more : (old new : List ℕ → List ℕ → Type 0) (list : List (List FileText)) (i : ℕ) → HasBroughtTo old list i
    → ((content : Content) → slice_get (pending_in list) i ≡ Some content → Only content.1 (new content.0))
    → ((content : Content) → slice_get (pending_in list) i ≡ Some content → KeepsOtherImages content.0 old new)
    → i < length (pending_in list) → HasBroughtTo new list (i + 1)
brought_more old new list i so_far only others within =
    let es = pending_in list in
    let sorted = map.entries_sorted (contents_of (as_one list)) in
    let here = there_is es i within in
    let each = next_place (λ j. (content : Content) → slice_get es j ≡ Some content → Only content.1 (new content.0)) i
    (λ j lt content found c now.
    so_far j content lt found c ((others here.0 here.1 content.0 (apart content.0 here.0.0 (less_places es j i content here.0 sorted lt found here.1))).no_more c now))
    only in
    λ j content lt. each j lt content

-- where all files have theirs, they have the list's contents
found_at : (es : List Content) (q v : List ℕ) → map.find R q es ≡ Some v
    → (i : ℕ) × (i < length es) × (slice_get es i ≡ Some (content q v))
found_at [] q v found = absurd (cc)
found_at (e ∷ es) q v found = by (tied_or_not text_cmp-IsAntisymmetric q e.0) (found_at es q v)
  where
    further : (i : ℕ) × (i < length es) × (slice_get es i ≡ Some (content q v))
        → (i : ℕ) × (i < length (e ∷ es)) × (slice_get (e ∷ es) i ≡ Some (content q v))
    further place = (suc place.0, omega (arith, place.1), place.2)

    by : (eq_by_cmp R q e.0 ≡ false) ⊎ ((eq_by_cmp R q e.0 ≡ true) × (q ≡ e.0))
        → (map.find R q es ≡ Some v → (i : ℕ) × (i < length es) × (slice_get es i ≡ Some (content q v)))
        → (i : ℕ) × (i < length (e ∷ es)) × (slice_get (e ∷ es) i ≡ Some (content q v))
    by (inl other) again = further (again (sym (ap (λ (b : Bool). cond b (Some e.1) (map.find R q es)) other) ∙ found))
    by (inr same) again =
        let value : e.1 ≡ v = some_is e.1 v (sym (ap (λ (b : Bool). cond b (Some e.1) (map.find R q es)) same.0) ∙ found) in
        (0, omega arith, ap₂ (λ (x y : List ℕ). Some (content x y)) (sym same.1) value)

pub brought_everything : (leaves : List ℕ → List ℕ → Type 0) (list : List (List FileText))
    → HasBroughtTo leaves list (length (pending_in list)) → HasBrought leaves (as_one list)
brought_everything leaves list all file bytes is =
    let m = contents_of (as_one list) in
    let place = found_at (map.entries m) file bytes (sym (map.get-entries m file) ∙ get_content (as_one list) file ∙ is) in
    all place.0 (content file bytes) place.1 place.2

pub brought_step : (r : Result Unit Failed) (old new : List ℕ → List ℕ → Type 0) (list : List (List FileText)) (i : ℕ)
    → HasBroughtTo old list i
    → ((content : Content) → slice_get (pending_in list) i ≡ Some content → OnOk r (Only content.1 (new content.0)))
    → ((content : Content) → slice_get (pending_in list) i ≡ Some content → KeepsOtherImages content.0 old new)
    → i < length (pending_in list) → OnOk r (HasBroughtTo new list (i + 1))
brought_step (Ok x) old new list i so_far only others within = brought_more old new list i so_far only others within
brought_step (Err e) old new list i so_far only others within = tt

-- what the list doesn't name is none of its files
pub unnamed_apart : (list : List (List FileText)) (i : ℕ) (e : Content) → Some e ≡ slice_get (pending_in list) i
    → (other : List ℕ) → content_in (as_one list) other ≡ None → other ≢ e.0
unnamed_apart list i e found other none same =
    none-some e.1 (sym none ∙ subst (λ file. content_in (as_one list) file ≡ Some e.1) (sym same) (content_there list i e found))
