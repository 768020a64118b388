-- Globs that rise from a depth on: what is less at that depth stands first, and those with one part there rise from the
-- next depth on.
use Rattle.std.proofs.Common.{◌≡◌, ℕ, zero, suc, ◌==◌, ◌+◌, ◌-◌, ◌<◌, ◌≤◌, Bool, true, false, T, List, [], ◌∷◌, ◌++◌, length, get_or, take, drop, map, slice_get, cond, Option, Some, None, Bor, append-nil, refl, sym, ap, ap₂, subst, ◌∙◌, arith}
use Rattle.std.specs.Bool.{Decides, one_answer}
use Rattle.std.specs.Cmp.{alike_right, tied_itself}
use Rattle.std.specs.Cmp.Lexicographic.{slice_cmp}
use Rattle.std.specs.FinMap as finite
use Rattle.std.specs.FinMap.{is_sorted}
use Rattle.std.specs.FinMap.Entries.{below_all}
use Rattle.std.specs.List.{AllByRecursion, AllWithin, filter}
use Rattle.std.specs.List.Sorted.{IsPartitionedBy, IsPartitionPoint, IsStrictlySortedBy}
use Rattle.std.specs.Ordering.{is_le, is_lt, nat_cmp, ordering_then}
use Rattle.std.specs.declared.cmp.Ordering.{Ordering}
use Rattle.std.specs.declared.cmp.Ordering.TheVariants.{Less, Equal, Greater}
use Rattle.std.proofs.lemmas.Cmp.{nat_list_cmp_total}
use Rattle.std.proofs.lemmas.List.{drop_more, map-append, take-append-drop}
use Rattle.std.proofs.lemmas.List.Elements.{All-from_recursion}
use Rattle.std.proofs.lemmas.List.Kept.{IsStrictlySortedBy-filter}
use Rattle.std.proofs.lemmas.Option.{get_or_from_slice_get, slice_get_within}
use borrow.Author.Tests.{eqb-true}
use Rattle.general_words.proofs.Lists.{same_default}
use Rattle.general_words.proofs.Orders.{less}
use Rattle.general_words.proofs.Tests.{first, second}
use Rattle.general_words.proofs.Texts.{text_cmp-IsAntisymmetric}
use Rattle.model_names.specs.declared.namespaces.Namespace.TheVariants.{Spec}
use Rattle.model_names.specs.Name.{Name, Part, rank}
use Rattle.model_names.specs.Order.{name_cmp, part_cmp}
use Rattle.model_maps.specs.Entry.{Entry}
use Rattle.model_maps.specs.KeyMap.{KeyMap}
use Rattle.model_names.specs.Glob.{HasGlob}
use Rattle.model_specified.specs.Globs.{has_glob}
use Rattle.model_specified.proofs.GlobTests.{has_glob-Decides}
use Rattle.key_set.specs.EntryView.{entry_of}
use Rattle.key_set.specs.declared.entries.Entry.{Entry as Held}
use Rattle.plugin_chain.specs.declared.globs.Glob.{Glob}
use Rattle.plugin_chain.specs.Globs.{AreGlobsOf, AreInSpec, HasPart, IsCut, IsRising, SplitsAt, beside, cmp_at, parts_of, seen}

-- ---- lists

all_front : {A : Type 0} (P : A → Type 0) (n : ℕ) (xs : List A) → AllByRecursion P xs → AllByRecursion P (take n xs)
all_front P zero xs h = tt
all_front P (suc n) [] h = tt
all_front P (suc n) (x ∷ xs) h = (h.0, all_front P n xs h.1)

pub all_both : {A : Type 0} (P Q R : A → Type 0) → ((x : A) → P x → Q x → R x) → (xs : List A) → AllByRecursion P xs
    → AllByRecursion Q xs → AllByRecursion R xs
all_both P Q R each [] p q = tt
all_both P Q R each (x ∷ xs) p q = (each x p.0 q.0, all_both P Q R each xs p.1 q.1)

-- what holds before a place, and what from it on
within_front : {A : Type 0} (P : A → Type 0) (xs : List A) (n : ℕ) → n ≤ length xs → AllWithin P xs 0 n
    → AllByRecursion P (take n xs)
within_front P xs zero le h = tt
within_front P [] (suc n) le h = tt
within_front P (x ∷ xs) (suc n) le h =
    (h 0 x (omega arith) (omega arith), within_front P xs n (omega arith) (λ k d low high. h (suc k) d (omega arith) (omega arith)))

within_all : {A : Type 0} (P : A → Type 0) (xs : List A) → AllWithin P xs 0 (length xs) → AllByRecursion P xs
within_all P [] h = tt
within_all P (x ∷ xs) h =
    (h 0 x (omega arith) (omega arith), within_all P xs (λ k d low high. h (suc k) d (omega arith) (omega arith)))

within_rest : {A : Type 0} (P : A → Type 0) (xs : List A) (n : ℕ) → AllWithin P xs n (length xs)
    → AllByRecursion P (drop n xs)
within_rest P xs zero h = within_all P xs h
within_rest P [] (suc n) h = tt
within_rest P (x ∷ xs) (suc n) h = within_rest P xs n (λ k d low high. h (suc k) d (omega arith) (omega arith))

module _ {K : Type 0} (c : K → K → Ordering) where
  sorted_front : (n : ℕ) (xs : List K) → IsStrictlySortedBy c xs → IsStrictlySortedBy c (take n xs)
  unfolding IsStrictlySortedBy
  sorted_front zero xs h = tt
  sorted_front (suc n) [] h = tt
  sorted_front (suc n) (x ∷ xs) h = (all_front _ n xs h.0, sorted_front n xs h.1)

  sorted_rest : (n : ℕ) (xs : List K) → IsStrictlySortedBy c xs → IsStrictlySortedBy c (drop n xs)
  unfolding IsStrictlySortedBy
  sorted_rest zero xs h = h
  sorted_rest (suc n) [] h = tt
  sorted_rest (suc n) (x ∷ xs) h = sorted_rest n xs h.1

  -- a test that holds of each that is less than one of which it holds parts the list
  sorted_parts : (test : K → Bool) → ((x y : K) → c x y ≡ Less → test y ≡ true → test x ≡ true) → (xs : List K)
      → IsStrictlySortedBy c xs → IsPartitionedBy test xs
  unfolding IsStrictlySortedBy
  sorted_parts test falls [] h i j d le lt holds = absurd (omega arith)
  sorted_parts test falls (x ∷ xs) h zero zero d le lt holds = holds
  sorted_parts test falls (x ∷ xs) h zero (suc j) d le lt holds =
      falls x (get_or xs j d) (All-from_recursion (λ y. c x y ≡ Less) xs h.0 j d (omega arith)) holds
  sorted_parts test falls (x ∷ xs) h (suc i) zero d le lt holds = absurd (omega arith)
  sorted_parts test falls (x ∷ xs) h (suc i) (suc j) d le lt holds =
      sorted_parts test falls xs h.1 i j d (omega arith) (omega arith) holds

-- an order that follows from another one, for elements of which something holds
sorted_by : {K : Type 0} (c e : K → K → Ordering) (P : K → Type 0)
    → ((x y : K) → P x → P y → c x y ≡ Less → e x y ≡ Less) → (xs : List K) → AllByRecursion P xs
    → IsStrictlySortedBy c xs → IsStrictlySortedBy e xs
unfolding IsStrictlySortedBy
sorted_by c e P each [] p h = tt
sorted_by c e P each (x ∷ xs) p h =
    (all_both P (λ y. c x y ≡ Less) (λ y. e x y ≡ Less) (λ y q lt. each x y p.0 q lt) xs p.1 h.0, sorted_by c e P each xs p.1 h.1)

-- ---- parts at a depth

-- no part at a depth is less than a word; else a list of parts that is less has no greater part there
module _ (test : Ordering → Bool) (of_less : test Less ≡ true) (of_greater : test Greater ≡ false) where
  part_falls : (a b word : Part) → part_cmp a b ≡ Less → test (part_cmp b word) ≡ true → test (part_cmp a word) ≡ true
  part_falls a b word lt h = elim (part_cmp b word) as (λ r. part_cmp b word ≡ r → test r ≡ true → test (part_cmp a word) ≡ true) [
    | Less ↦ λ is t. ap test (nat_list_cmp_total.trans a b word lt is) ∙ of_less
    | Equal ↦ λ is t. ap test (sym (alike_right nat_list_cmp_total b word a is) ∙ lt) ∙ of_less
    | Greater ↦ λ is t. let clash : false ≡ true = sym of_greater ∙ t in absurd cc
  ] refl h

  first_falls : (s t : List Part) (word : Part) → slice_cmp part_cmp s t ≡ Less
      → test (cmp_at (slice_get t 0) word) ≡ true → test (cmp_at (slice_get s 0) word) ≡ true
  first_falls [] t word lt h = of_less
  first_falls (a ∷ s) [] word lt h = absurd cc
  first_falls (a ∷ s) (b ∷ t) word lt h = elim (part_cmp a b) as (λ r. part_cmp a b ≡ r → ordering_then r (slice_cmp part_cmp s t) ≡ Less → test (part_cmp a word) ≡ true) [
    | Less ↦ λ is e. part_falls a b word is h
    | Equal ↦ λ is e. ap test (nat_list_cmp_total.congr a b word is) ∙ h
    | Greater ↦ λ is e. absurd cc
  ] refl lt

first_behind : (depth : ℕ) (ps : List Part) → slice_get (drop depth ps) 0 ≡ slice_get ps depth
first_behind zero ps = refl
first_behind (suc depth) [] = refl
first_behind (suc depth) (p ∷ ps) = first_behind depth ps

-- the globs that pass a test of their part at a depth stand first
parted : (test : Ordering → Bool) → test Less ≡ true → test Greater ≡ false
    → (depth : ℕ) (word : Part) (globs : List Glob) → IsRising depth globs
    → IsPartitionedBy (λ glob. test (beside depth word glob)) globs
parted test of_less of_greater depth word globs rising =
    sorted_parts (λ a b. slice_cmp part_cmp (drop depth (parts_of a)) (drop depth (parts_of b))) (λ glob. test (beside depth word glob)) (λ x y lt h.
    subst (λ o. test (cmp_at o word) ≡ true) (first_behind depth (parts_of x))
    (first_falls test of_less of_greater (drop depth (parts_of x)) (drop depth (parts_of y)) word lt (subst (λ o. test (cmp_at o word) ≡ true) (sym (first_behind depth (parts_of y))) h))) globs rising

-- so a search finds where the others begin
pub splits : (test : Ordering → Bool) → test Less ≡ true → test Greater ≡ false
    → (depth : ℕ) (word : Part) (globs : List Glob) (place : ℕ) → IsRising depth globs → place ≤ length globs
    → (IsPartitionedBy (λ glob. test (beside depth word glob)) globs → IsPartitionPoint (λ glob. test (beside depth word glob) ≡ true) (λ glob. test (beside depth word glob) ≡ false) globs place)
    → SplitsAt (λ glob. test (beside depth word glob)) globs place
splits test of_less of_greater depth word globs place rising bound finds =
    let point = finds (parted test of_less of_greater depth word globs rising) in
    record { bound = bound; front = within_front _ globs place bound point.0; back = within_rest _ globs place point.1 }

-- there is none
pub splits_empty : (test : Glob → Bool) (globs : List Glob) → (length globs == 0) ≡ true → SplitsAt test globs 0
splits_empty test globs none =
    let no : length globs ≡ 0 = eqb-true (length globs) 0 none in
    record { bound = omega arith; front = tt; back = within_all _ globs (λ k d low high. absurd (omega (arith, no))) }

some_there : (globs : List Glob) → (length globs == 0) ≡ false → 0 < length globs
some_there [] some = absurd cc
some_there (glob ∷ globs) some = omega arith

-- the first one fails, so all do
pub splits_first : (test : Ordering → Bool) → test Less ≡ true → test Greater ≡ false
    → (depth : ℕ) (word : Part) (globs : List Glob) (glob : Glob) → IsRising depth globs → (length globs == 0) ≡ false
    → glob ≡ get_or globs 0 glob
    → test (beside depth word glob) ≡ false → SplitsAt (λ glob. test (beside depth word glob)) globs 0
splits_first test of_less of_greater depth word globs glob rising some is fails =
    record { bound = omega arith; front = tt; back = within_all _ globs (λ k d low high. each k d high) }
  where
    each : (k : ℕ) (d : Glob) → k < length globs → test (beside depth word (get_or globs k d)) ≡ false
    each k d high = elim (test (beside depth word (get_or globs k d))) as (λ b. test (beside depth word (get_or globs k d)) ≡ b → b ≡ false) [
      | true ↦ λ holds.
          let first_holds : test (beside depth word (get_or globs 0 d)) ≡ true = parted test of_less of_greater depth word globs rising 0 k d (omega arith) high holds in
          let same : get_or globs 0 d ≡ glob = same_default globs 0 d glob (some_there globs some) ∙ sym is in
          let clash : false ≡ true = sym fails ∙ sym (ap (λ g. test (beside depth word g)) same) ∙ first_holds in
          absurd cc
      | false ↦ λ holds. refl
    ] refl

-- the last one passes, so all do
pub splits_last : (test : Ordering → Bool) → test Less ≡ true → test Greater ≡ false
    → (depth : ℕ) (word : Part) (globs : List Glob) (glob : Glob) → IsRising depth globs → (length globs == 0) ≡ false
    → glob ≡ get_or globs (length globs - 1) glob
    → test (beside depth word glob) ≡ true → SplitsAt (λ glob. test (beside depth word glob)) globs (length globs)
splits_last test of_less of_greater depth word globs glob rising some is holds = record {
  bound = omega arith;
  front = within_front _ globs (length globs) (omega arith) (λ k d low high.
      let there = some_there globs some in
      parted test of_less of_greater depth word globs rising k (length globs - 1) d (omega (arith, there)) (omega (arith, there))
      (ap (λ g. test (beside depth word g)) (same_default globs (length globs - 1) d glob (omega (arith, there)) ∙ sym is) ∙ holds));
  back = within_rest _ globs (length globs) (λ k d low high. absurd (omega arith));
}

-- those behind a place rise too
pub rising_rest : (depth n : ℕ) (globs rest : List Glob) → rest ≡ drop n globs → IsRising depth globs
    → IsRising depth rest
rising_rest depth n globs rest is rising = subst (IsRising depth) (sym is) (sorted_rest _ n globs rising)

-- ---- one depth more

part_then : (ps : List Part) (depth : ℕ) (word : Part) → slice_get ps depth ≡ Some word
    → drop depth ps ≡ word ∷ drop (depth + 1) ps
part_then ps depth word is =
    drop_more ps depth word (slice_get_within ps depth word is)
    ∙ ap (λ p. p ∷ drop (depth + 1) ps) (get_or_from_slice_get ps depth word word is)

-- those with one part at a depth rise from the next depth on
pub deeper : (depth : ℕ) (word : Part) (globs : List Glob) → AllByRecursion (HasPart depth word) globs
    → IsRising depth globs → IsRising (depth + 1) globs
deeper depth word globs same rising = sorted_by _ _ (HasPart depth word) (λ x y of_x of_y lt.
    ap (λ r. ordering_then r (slice_cmp part_cmp (drop (depth + 1) (parts_of x)) (drop (depth + 1) (parts_of y)))) (sym (tied_itself nat_list_cmp_total word))
    ∙ sym (ap₂ (slice_cmp part_cmp) (part_then (parts_of x) depth word of_x) (part_then (parts_of y) depth word of_y))
    ∙ lt) globs same rising

-- ---- one word cut out

is_less_of : (r : Ordering) → is_lt r ≡ true → r ≡ Less
is_less_of Less h = refl
is_less_of Equal h = absurd cc
is_less_of Greater h = absurd cc

is_equal_of : (r : Ordering) → is_lt r ≡ false → is_le r ≡ true → r ≡ Equal
is_equal_of Less h g = absurd cc
is_equal_of Equal h g = refl
is_equal_of Greater h g = absurd cc

is_greater_of : (r : Ordering) → is_le r ≡ false → r ≡ Greater
is_greater_of Less h = absurd cc
is_greater_of Equal h = absurd cc
is_greater_of Greater h = refl

has_word : (o : Option Part) (word : Part) → cmp_at o word ≡ Equal → o ≡ Some word
has_word None word e = absurd cc
has_word (Some part) word e = ap Some (text_cmp-IsAntisymmetric part word e)

pub all_weaker : {A : Type 0} (P Q : A → Type 0) → ((x : A) → P x → Q x) → (xs : List A) → AllByRecursion P xs
    → AllByRecursion Q xs
all_weaker P Q each xs p = all_both P P Q (λ x h _. each x h) xs p p

pub cut_is : (depth : ℕ) (word : Part) (globs rest same behind : List Glob) (n m : ℕ) → IsRising depth globs
    → SplitsAt (λ glob. is_lt (beside depth word glob)) globs n → rest ≡ drop n globs
    → SplitsAt (λ glob. is_le (beside depth word glob)) rest m → same ≡ take m rest → behind ≡ drop m rest
    → IsCut depth word globs same behind
cut_is depth word globs rest same behind n m rising low is_rest high is_same is_behind =
    let rest_rising : IsRising depth rest = rising_rest depth n globs rest is_rest rising in
    let not_less : AllByRecursion (λ glob. is_lt (beside depth word glob) ≡ false) rest = subst (AllByRecursion (λ glob. is_lt (beside depth word glob) ≡ false)) (sym is_rest) low.back in
    let equal : AllByRecursion (HasPart depth word) (take m rest) =
    all_both (λ glob. is_lt (beside depth word glob) ≡ false) (λ glob. is_le (beside depth word glob) ≡ true) (HasPart depth word) (λ glob h g. has_word _ word (is_equal_of _ h g)) (take m rest) (all_front _ m rest not_less) high.front in
    record {
      before = take n globs;
      all = sym (take-append-drop n globs) ∙ ap (λ gs. take n globs ++ gs) (sym is_rest ∙ sym (take-append-drop m rest) ∙ ap₂ (λ xs ys. xs ++ ys) (sym is_same) (sym is_behind));
      lower = all_weaker _ (λ glob. beside depth word glob ≡ Less) (λ glob h. is_less_of _ h) (take n globs) low.front;
      equal = subst (AllByRecursion (HasPart depth word)) (sym is_same) equal;
      higher = subst (AllByRecursion (λ glob. beside depth word glob ≡ Greater)) (sym is_behind) (all_weaker _ (λ glob. beside depth word glob ≡ Greater) (λ glob h. is_greater_of _ h) (drop m rest) high.back);
      deeper = subst (IsRising (depth + 1)) (sym is_same) (deeper depth word (take m rest) equal (sorted_front _ m rest rest_rising));
      rest = subst (IsRising depth) (sym is_behind) (sorted_rest _ m rest rest_rising);
    }

-- ---- the globs of a set

entries_rise : (es : List (Name × Entry)) → AllByRecursion (λ (key : Name × Entry). key.0.namespace ≡ Spec) es
    → T (is_sorted name_cmp es) → IsStrictlySortedBy (λ (a b : Name × Entry). slice_cmp part_cmp a.0.parts b.0.parts) es
unfolding IsStrictlySortedBy
entries_rise [] in_spec h = tt
entries_rise (e ∷ es) in_spec h = (each es in_spec.1 (first _ _ h), entries_rise es in_spec.1 (second _ _ h))
  where
    each : (fs : List (Name × Entry)) → AllByRecursion (λ (key : Name × Entry). key.0.namespace ≡ Spec) fs
        → T (below_all name_cmp e.0 fs) → AllByRecursion (λ f. slice_cmp part_cmp e.0.parts f.0.parts ≡ Less) fs
    each [] there below = tt
    each (f ∷ fs) there below =
        (sym (ap₂ (λ m n. ordering_then (nat_cmp (rank m) (rank n)) (slice_cmp part_cmp e.0.parts f.0.parts)) in_spec.0 there.0) ∙ less _ (first _ _ below), each fs there.1 (second _ _ below))

sorted_through : {A B : Type 0} (f : A → B) (c : B → B → Ordering) (xs : List A) → IsStrictlySortedBy c (map f xs)
    → IsStrictlySortedBy (λ x y. c (f x) (f y)) xs
unfolding IsStrictlySortedBy
sorted_through f c [] h = tt
sorted_through {A = A} f c (x ∷ xs) h = (each xs h.0, sorted_through f c xs h.1)
  where
    each : (ys : List A) → AllByRecursion (λ y. c (f x) y ≡ Less) (map f ys)
        → AllByRecursion (λ y. c (f x) (f y) ≡ Less) ys
    each [] g = tt
    each (y ∷ ys) g = (g.0, each ys g.1)

pub are_globs : (keys : KeyMap) (globs : List Glob) → AreInSpec keys
    → map seen globs ≡ filter (λ (key : Name × Entry). has_glob key.0.parts) (finite.entries keys)
    → AreGlobsOf keys globs
are_globs keys globs in_spec all = record {
  in_spec = in_spec;
  all = all;
  rising = sorted_through seen (λ a b. slice_cmp part_cmp a.0.parts b.0.parts) globs
      (subst (IsStrictlySortedBy (λ a b. slice_cmp part_cmp a.0.parts b.0.parts)) (sym all)
      (IsStrictlySortedBy-filter _ (λ key. has_glob key.0.parts) (finite.entries keys) (entries_rise (finite.entries keys) in_spec (finite.entries_sorted keys))));
}

told_hole : (name : Name) (b told : Bool) → Decides told (HasGlob name.parts) → told ≡ b → has_glob name.parts ≡ b
told_hole name b told decides is = one_answer (has_glob name.parts) told (has_glob-Decides name.parts) decides ∙ is

-- a key with a hole is added
pub added_glob : (globs new : List Glob) (glob : Glob) (key : Name × Entry) (told : Bool)
    → Decides told (HasGlob key.0.parts) → told ≡ true → seen glob ≡ key → new ≡ globs ++ glob ∷ []
    → map seen new ≡ map seen globs ++ filter (λ (key : Name × Entry). has_glob key.0.parts) (key ∷ [])
added_glob globs new glob key told decides is same made =
    ap (map seen) made
    ∙ map-append seen globs _
    ∙ ap (λ k. map seen globs ++ k ∷ []) same
    ∙ ap (λ b. map seen globs ++ cond b (key ∷ []) []) (sym (told_hole key.0 true told decides is))

-- one without a hole is not
pub no_glob : (globs : List Glob) (name : Bor Name) (entry : Bor Held) (told : Bool)
    → Decides told (HasGlob name.now.parts) → told ≡ false
    → map seen globs
    ≡ map seen globs ++ filter (λ (key : Name × Entry). has_glob key.0.parts) ((name.now, entry_of entry.now) ∷ [])
no_glob globs name entry told decides is =
    sym (append-nil (map seen globs))
    ∙ ap (λ b. map seen globs ++ cond b ((name.now, entry_of entry.now) ∷ []) []) (sym (told_hole name.now false told decides is))
