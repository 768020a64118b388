-- What is left of globs loses no pattern of a path.
use Rattle.std.proofs.Common.{◌≡◌, ◌⊎◌, inl, inr, ℕ, zero, suc, Bool, true, false, cond, ◌&&◌, ◌==◌, List, [], ◌∷◌, ◌++◌, take, drop, map, slice_get, Option, Some, None, codes, refl, sym, ap, ap₂, subst, ◌∙◌, append-nil}
use Rattle.std.specs.Cmp.{alike_right, tied_itself}
use Rattle.std.specs.Cmp.Lexicographic.{slice_cmp}
use Rattle.std.specs.FinMap as finite
use Rattle.std.specs.List.{AllByRecursion, filter}
use Rattle.std.specs.List.Sorted.{IsStrictlySortedBy}
use Rattle.std.specs.Ordering.{is_le, ordering_reverse}
use Rattle.std.specs.declared.cmp.Ordering.{Ordering}
use Rattle.std.specs.declared.cmp.Ordering.TheVariants.{Less, Equal, Greater}
use Rattle.std.proofs.lemmas.Cmp.{nat_list_cmp_total}
use Rattle.std.proofs.lemmas.List.Elements.{filter-append}
use Rattle.model_names.specs.ArrayPart.{is_array_like, is_canonical}
use Rattle.model_names.specs.Glob.{AnyPart, FitsPart, HasGlob, Item, MatchesGlob, Same}
use Rattle.model_names.specs.Name.{Name, Part}
use Rattle.model_names.specs.Order.{name_eq, part_cmp}
use Rattle.model_maps.specs.Entry.{Entry}
use Rattle.model_maps.specs.KeyMap.{KeyMap}
use Rattle.model_specified.specs.Globs.{has_glob, matches_glob}
use Rattle.model_specified.specs.SpecMeta.{is_pattern_of, spec_name}
use Rattle.model_specified.proofs.GlobTests.{has_glob-Decides, matches_glob-Decides}
use Rattle.plugin_chain.specs.declared.globs.Glob.{Glob}
use Rattle.plugin_chain.specs.Globs.{AreAscending, AreGlobsOf, HasPart, HaveWords, IsCut, IsNarrowed, IsRising, begins_as_item, beside, cmp_at, parts_of, patterns_in, seen}
use Rattle.general_words.proofs.Lists.{all_back, some_is}
use Rattle.general_words.proofs.Tests.{not_is}
use Rattle.model_names.proofs.OrderLemmas.{name_decides}
use Rattle.model_names.specs.declared.namespaces.Namespace.TheVariants.{Spec}
use Rattle.plugin_chain.proofs.RisingLemmas.{all_both, all_weaker}

-- ---- filters

none_of : {A : Type 0} (test : A → Bool) (xs : List A) → AllByRecursion (λ x. test x ≡ true → ⊥) xs
    → filter test xs ≡ []
none_of test [] h = refl
none_of test (x ∷ xs) h = elim (test x) as (λ b. test x ≡ b → cond b (x ∷ filter test xs) (filter test xs) ≡ []) [
  | true ↦ λ is. absurd (h.0 is)
  | false ↦ λ is. none_of test xs h.1
] refl

-- what a test leaves out that holds wherever another does
filter_first : {A : Type 0} (p q : A → Bool) (xs : List A) → AllByRecursion (λ x. p x ≡ true → q x ≡ true) xs
    → filter p (filter q xs) ≡ filter p xs
filter_first p q [] h = refl
filter_first p q (x ∷ xs) h = elim (q x) as (λ b. q x ≡ b → filter p (cond b (x ∷ filter q xs) (filter q xs)) ≡ cond (p x) (x ∷ filter p xs) (filter p xs)) [
  | true ↦ λ is. ap (λ ys. cond (p x) (x ∷ ys) ys) (filter_first p q xs h.1)
  | false ↦ λ is. filter_first p q xs h.1 ∙ out (p x) refl is
] refl
  where
    out : (b : Bool) → p x ≡ b → q x ≡ false → filter p xs ≡ cond b (x ∷ filter p xs) (filter p xs)
    out true holds fails = let clash : false ≡ true = sym fails ∙ h.0 holds in absurd cc
    out false holds fails = refl

filter_through : {A B : Type 0} (f : A → B) (p : B → Bool) (xs : List A)
    → filter p (map f xs) ≡ map f (filter (λ x. p (f x)) xs)
filter_through f p [] = refl
filter_through f p (x ∷ xs) = elim (p (f x)) as (λ b. cond b (f x ∷ filter p (map f xs)) (filter p (map f xs)) ≡ map f (cond b (x ∷ filter (λ y. p (f y)) xs) (filter (λ y. p (f y)) xs))) [
  | true ↦ ap (λ ys. f x ∷ ys) (filter_through f p xs)
  | false ↦ filter_through f p xs
]

-- ---- three words

abbrev Apart : ℕ → Part → Glob → Type 0
Apart depth word glob = HasPart depth word glob → ⊥

has_itself : (depth : ℕ) (word : Part) (glob : Glob) → HasPart depth word glob → beside depth word glob ≡ Equal
has_itself depth word glob has = ap (λ o. cmp_at o word) has ∙ tied_itself nat_list_cmp_total word

apart_less : (depth : ℕ) (word : Part) (glob : Glob) → beside depth word glob ≡ Less → Apart depth word glob
apart_less depth word glob is has = let clash : Less ≡ Equal = sym is ∙ has_itself depth word glob has in absurd cc

apart_greater : (depth : ℕ) (word : Part) (glob : Glob) → beside depth word glob ≡ Greater → Apart depth word glob
apart_greater depth word glob is has =
    let clash : Greater ≡ Equal = sym is ∙ has_itself depth word glob has in absurd cc

-- what is less than a word is less than one that is no lower
still_less : (o : Option Part) (low high : Part) → is_le (part_cmp low high) ≡ true → cmp_at o low ≡ Less
    → cmp_at o high ≡ Less
still_less None low high le lt = refl
still_less (Some part) low high le lt = elim (part_cmp low high) as (λ r. part_cmp low high ≡ r → is_le r ≡ true → part_cmp part high ≡ Less) [
  | Less ↦ λ is h. nat_list_cmp_total.trans part low high lt is
  | Equal ↦ λ is h. sym (alike_right nat_list_cmp_total low high part is) ∙ lt
  | Greater ↦ λ is h. absurd cc
] refl le

all_start : {A : Type 0} (P : A → Type 0) (xs ys : List A) → AllByRecursion P (xs ++ ys) → AllByRecursion P xs
all_start P [] ys h = tt
all_start P (x ∷ xs) ys h = (h.0, all_start P xs ys h.1)

abbrev Over : ℕ → Part → Glob → Type 0
Over depth word glob = beside depth word glob ≡ Greater

abbrev Under : ℕ → Part → Glob → Type 0
Under depth word glob = beside depth word glob ≡ Less

module _ (depth : ℕ) (one two three : Part) (order : AreAscending one two three) (test : Glob → Bool)
    (only : (glob : Glob) → test glob ≡ true → HasPart depth one glob ⊎ (HasPart depth two glob ⊎ HasPart depth three glob)) where
  fails : (glob : Glob) → Apart depth one glob → Apart depth two glob → Apart depth three glob → test glob ≡ true → ⊥
  fails glob a b c holds = elim (only glob holds) [ inl h ↦ a h | inr h ↦ elim h [ inl g ↦ b g | inr g ↦ c g ] ]

  under_all : (globs : List Glob) → AllByRecursion (Under depth one) globs → filter test globs ≡ []
  under_all globs h = none_of test globs (all_weaker _ _ (λ glob lt.
      let lower : Under depth two glob = still_less _ one two order.lower lt in
      fails glob (apart_less depth one glob lt) (apart_less depth two glob lower) (apart_less depth three glob (still_less _ two three order.upper lower))) globs h)

  between_lower : (globs : List Glob) → AllByRecursion (Over depth one) globs → AllByRecursion (Under depth two) globs
      → filter test globs ≡ []
  between_lower globs g h = none_of test globs (all_both (Over depth one) (Under depth two) _ (λ glob gt lt.
      fails glob (apart_greater depth one glob gt) (apart_less depth two glob lt) (apart_less depth three glob (still_less _ two three order.upper lt))) globs g h)

  between_upper : (globs : List Glob) → AllByRecursion (Over depth one) globs → AllByRecursion (Over depth two) globs
      → AllByRecursion (Under depth three) globs → filter test globs ≡ []
  between_upper globs f g h = none_of test globs (all_both (Over depth one) (λ glob. Over depth two glob × Under depth three glob) _ (λ glob gt both.
      fails glob (apart_greater depth one glob gt) (apart_greater depth two glob both.0) (apart_less depth three glob both.1)) globs f
      (all_both (Over depth two) (Under depth three) _ (λ glob gt lt. (gt, lt)) globs g h))

  over_all : (globs : List Glob) → AllByRecursion (Over depth one) globs → AllByRecursion (Over depth two) globs
      → AllByRecursion (Over depth three) globs → filter test globs ≡ []
  over_all globs f g h = none_of test globs (all_both (Over depth one) (λ glob. Over depth two glob × Over depth three glob) _ (λ glob gt both.
      fails glob (apart_greater depth one glob gt) (apart_greater depth two glob both.0) (apart_greater depth three glob both.1)) globs f
      (all_both (Over depth two) (Over depth three) _ (λ glob a b. (a, b)) globs g h))

  without : (before same behind globs : List Glob) → globs ≡ before ++ (same ++ behind) → filter test before ≡ []
      → filter test globs ≡ filter test same ++ filter test behind
  without before same behind globs is none =
      ap (filter test) is ∙ filter-append test before (same ++ behind)
      ∙ ap (λ ys. ys ++ filter test (same ++ behind)) none ∙ filter-append test same behind

  words_kept : (globs first behind second rest third last : List Glob) → IsCut depth one globs first behind
      → IsCut depth two behind second rest → IsCut depth three rest third last
      → filter test globs ≡ filter test first ++ (filter test second ++ filter test third)
  words_kept globs first behind second rest third last a b c =
      let over_one : AllByRecursion (Over depth one) (b.before ++ (second ++ rest)) = subst (AllByRecursion (Over depth one)) b.all a.higher in
      let rest_one : AllByRecursion (Over depth one) (c.before ++ (third ++ last)) = subst (AllByRecursion (Over depth one)) c.all (all_back _ second rest (all_back _ b.before (second ++ rest) over_one)) in
      let rest_two : AllByRecursion (Over depth two) (c.before ++ (third ++ last)) = subst (AllByRecursion (Over depth two)) c.all b.higher in
      let no_last : filter test last ≡ [] = over_all last (all_back _ third last (all_back _ c.before (third ++ last) rest_one)) (all_back _ third last (all_back _ c.before (third ++ last) rest_two)) c.higher in
      without a.before first behind globs a.all (under_all a.before a.lower)
      ∙ ap (λ ys. filter test first ++ ys) (without b.before second rest behind b.all (between_lower b.before (all_start _ b.before (second ++ rest) over_one) b.lower)
      ∙ ap (λ ys. filter test second ++ ys)
      (without c.before third last rest c.all (between_upper c.before (all_start _ c.before (third ++ last) rest_one) (all_start _ c.before (third ++ last) rest_two) c.lower)
      ∙ ap (λ ys. filter test third ++ ys) no_last ∙ append-nil (filter test third)))

-- what is cut out for three words is all that has one of them
pub have_words : (depth : ℕ) (one two three : Part) (globs first behind second rest third last : List Glob)
    → AreAscending one two three → IsCut depth one globs first behind → IsCut depth two behind second rest
    → IsCut depth three rest third last → HaveWords depth one two three globs first second third
have_words depth one two three globs first behind second rest third last order a b c = record {
  kept = λ test only. words_kept depth one two three order test only globs first behind second rest third last a b c;
  first_deeper = a.deeper;
  second_deeper = b.deeper;
  third_deeper = c.deeper;
}

-- ---- the words of a path's part

fits_at : (path ps : List Part) (depth : ℕ) (part : Part) → MatchesGlob path ps → slice_get path depth ≡ Some part
    → (word : Part) × (slice_get ps depth ≡ Some word) × FitsPart part word
fits_at [] ps depth part fits is = absurd cc
fits_at (a ∷ path) [] depth part fits is = absurd fits
fits_at (a ∷ path) (b ∷ ps) zero part fits is = (b, refl, subst (λ p. FitsPart p b) (some_is a part is) fits.0)
fits_at (a ∷ path) (b ∷ ps) (suc depth) part fits is = fits_at path ps depth part fits.1 is

first_holds : (a b : Bool) → (a && b) ≡ true → a ≡ true
first_holds true b h = refl
first_holds false b h = h

second_holds : (a b : Bool) → (a && b) ≡ true → b ≡ true
second_holds true b h = h
second_holds false b h = absurd cc

fits_pattern : (path : List Part) (name : Name) → is_pattern_of path name ≡ true → MatchesGlob path name.parts
fits_pattern path name is = (matches_glob-Decides path name.parts).0 (first_holds (matches_glob path name.parts) _ is)

abbrev IsOneOf : Part → Part → Part → Part → Type 0
IsOneOf one two three word = (word ≡ one) ⊎ ((word ≡ two) ⊎ (word ≡ three))

narrowed_by : (depth : ℕ) (part one two three : Part) (globs first second third : List Glob)
    → ((word : Part) → FitsPart part word → IsOneOf one two three word)
    → HaveWords depth one two three globs first second third
    → IsNarrowed depth part globs first second third
narrowed_by depth part one two three globs first second third words have = record {
  kept = λ path is. have.kept (λ glob. is_pattern_of path glob.name.now) (λ glob pattern. has path glob is (fits_at path (parts_of glob) depth part (fits_pattern path glob.name.now pattern) is));
  first_deeper = have.first_deeper;
  second_deeper = have.second_deeper;
  third_deeper = have.third_deeper;
}
  where
    has : (path : List Part) (glob : Glob) → slice_get path depth ≡ Some part
        → (word : Part) × (slice_get (parts_of glob) depth ≡ Some word) × FitsPart part word
        → HasPart depth one glob ⊎ (HasPart depth two glob ⊎ HasPart depth three glob)
    has path glob is there = elim (words there.0 there.2) [
      | inl e ↦ inl (there.1 ∙ ap Some e)
      | inr h ↦ elim h [ inl e ↦ inr (inl (there.1 ∙ ap Some e)) | inr e ↦ inr (inr (there.1 ∙ ap Some e)) ]
    ]

-- a part that begins as an item does
pub narrowed_item : (depth : ℕ) (part : Part) (globs first second third : List Glob)
    → HaveWords depth (codes "#") part (codes "_") globs first second third
    → IsNarrowed depth part globs first second third
narrowed_item depth part globs first second third have =
    narrowed_by depth part _ _ _ globs first second third words have
  where
    words : (word : Part) → FitsPart part word → IsOneOf (codes "#") part (codes "_") word
    words word (Same e) = inr (inl (sym e))
    words word (AnyPart e) = inr (inr e)
    words word (Item e item) = inl e

-- one that doesn't
no_item : (part : Part) → begins_as_item part ≡ false → (is_array_like part && is_canonical part) ≡ true → ⊥
no_item [] other item = absurd cc
no_item (b ∷ bytes) other item =
    let clash : false ≡ true = sym other ∙ first_holds (b == 35) _ (first_holds (is_array_like (b ∷ bytes)) _ item) in absurd cc

pub narrowed_low : (depth : ℕ) (part : Part) (globs first second third : List Glob) → begins_as_item part ≡ false
    → HaveWords depth part (codes "_") (codes "_") globs first second third
    → IsNarrowed depth part globs first second third
narrowed_low depth part globs first second third other have =
    narrowed_by depth part _ _ _ globs first second third words have
  where
    words : (word : Part) → FitsPart part word → IsOneOf part (codes "_") (codes "_") word
    words word (Same e) = inl (sym e)
    words word (AnyPart e) = inr (inl e)
    words word (Item e item) = absurd (no_item part other item)

pub high_order : (part : Part) → is_le (part_cmp part (codes "_")) ≡ false → AreAscending (codes "_") part part
high_order part gt = record {
  lower = ap is_le (nat_list_cmp_total.antisymm (codes "_") part) ∙ turned (part_cmp part (codes "_")) gt;
  upper = ap is_le (tied_itself nat_list_cmp_total part);
}
  where
    turned : (r : Ordering) → is_le r ≡ false → is_le (ordering_reverse r) ≡ true
    turned Less h = absurd cc
    turned Equal h = refl
    turned Greater h = refl

pub narrowed_high : (depth : ℕ) (part : Part) (globs first second third : List Glob) → begins_as_item part ≡ false
    → HaveWords depth (codes "_") part part globs first second third → IsNarrowed depth part globs first second third
narrowed_high depth part globs first second third other have =
    narrowed_by depth part _ _ _ globs first second third words have
  where
    words : (word : Part) → FitsPart part word → IsOneOf (codes "_") part part word
    words word (Same e) = inr (inl (sym e))
    words word (AnyPart e) = inl e
    words word (Item e item) = absurd (no_item part other item)

-- ---- the end of a path

past : (path ps : List Part) (depth : ℕ) → MatchesGlob path ps → slice_get path depth ≡ None → drop depth ps ≡ []
past [] [] zero fits is = refl
past [] [] (suc depth) fits is = refl
past [] (b ∷ ps) depth fits is = absurd fits
past (a ∷ path) [] depth fits is = absurd fits
past (a ∷ path) (b ∷ ps) zero fits is = absurd cc
past (a ∷ path) (b ∷ ps) (suc depth) fits is = past path ps depth fits.1 is

none_less : (s t : List Part) → slice_cmp part_cmp s t ≡ Less → t ≡ [] → ⊥
none_less [] [] lt is = absurd cc
none_less (a ∷ s) [] lt is = absurd cc
none_less s (b ∷ t) lt is = absurd cc

-- of globs with all parts of a path, the first alone may have no more
pub first_alone : (path : List Part) (depth : ℕ) (globs : List Glob) → IsRising depth globs
    → slice_get path depth ≡ None → patterns_in path (take 1 globs) ≡ patterns_in path globs
unfolding IsStrictlySortedBy
first_alone path depth [] rising is = refl
first_alone path depth (glob ∷ globs) rising is =
    ap (λ gs. cond (is_pattern_of path glob.name.now) (glob ∷ gs) gs)
    (sym (none_of (λ g. is_pattern_of path g.name.now) globs (all_weaker _ _ (λ g lt pattern. none_less _ _ lt (past path (parts_of g) depth (fits_pattern path g.name.now pattern) is)) globs rising.0)))

-- ---- the candidates of a path

no_hole : (path ps : List Part) → MatchesGlob path ps → (HasGlob ps → ⊥) → path ≡ ps
no_hole [] [] fits none = refl
no_hole [] (b ∷ ps) fits none = absurd fits
no_hole (a ∷ path) [] fits none = absurd fits
no_hole (a ∷ path) (b ∷ ps) fits none = ap₂ (λ p qs. p ∷ qs) (same fits.0) (no_hole path ps fits.1 (λ h. none (inr h)))
  where
    same : FitsPart a b → a ≡ b
    same (Same e) = e
    same (AnyPart e) = absurd (none (inl (inl e)))
    same (Item e item) = absurd (none (inl (inr e)))

-- a pattern of another path has a hole
pattern_has_hole : (path : List Part) (name : Name) → name.namespace ≡ Spec → is_pattern_of path name ≡ true
    → has_glob name.parts ≡ true
pattern_has_hole path name in_spec pattern = by (has_glob name.parts) refl
  where
    own : (HasGlob name.parts → ⊥) → name ≡ spec_name path
    own none =
        let same = no_hole path name.parts (fits_pattern path name pattern) none in λ i. record { namespace = in_spec i; parts = sym same i }

    by : (b : Bool) → has_glob name.parts ≡ b → b ≡ true
    by true is = refl
    by false is =
        let none : HasGlob name.parts → ⊥ = λ h. let clash : false ≡ true = sym is ∙ (has_glob-Decides name.parts).1 h in absurd cc in
        let other : name_eq name (spec_name path) ≡ false = not_is _ (second_holds (matches_glob path name.parts) _ pattern) in
        let clash : false ≡ true = sym other ∙ (name_decides name (spec_name path)).1 (own none) in
        absurd cc

pub candidates_are : (keys : KeyMap) (path : List Part) (globs found : List Glob) → AreGlobsOf keys globs
    → patterns_in path found ≡ patterns_in path globs
    → filter (λ (key : Name × Entry). is_pattern_of path key.0) (map seen found)
    ≡ filter (λ (key : Name × Entry). is_pattern_of path key.0) (finite.entries keys)
candidates_are keys path globs found are is =
    filter_through seen (λ key. is_pattern_of path key.0) found
    ∙ ap (map seen) is
    ∙ sym (filter_through seen (λ key. is_pattern_of path key.0) globs)
    ∙ ap (filter (λ key. is_pattern_of path key.0)) are.all
    ∙ filter_first (λ key. is_pattern_of path key.0) (λ key. has_glob key.0.parts) (finite.entries keys)
    (all_weaker _ _ (λ key in_spec pattern. pattern_has_hole path key.0 in_spec pattern) (finite.entries keys) are.in_spec)
