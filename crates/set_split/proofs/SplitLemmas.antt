-- How many keys are left aside by the mounts so far: no two of them own one key.
use Rattle.std.proofs.Common.{◌≡◌, ℕ, ◌+◌, ◌<◌, Bool, true, false, cond, not, ◌||◌, true≢false, List, [], ◌∷◌, ◌++◌, length, get_or, map as over, take, refl, sym, ap, ap₂, subst, ◌∙◌, arith}
use Rattle.std.specs.FinMap as map
use Rattle.std.specs.FinMap.Entries.{where_key}
use Rattle.std.specs.Cmp.{tied_itself}
use Rattle.std.specs.List.{list_any, range_with_len}
use Rattle.std.specs.List.Sorted.{IsStrictlyIncreasing, IsStrictlySortedBy}
use Rattle.std.specs.Ordering.{nat_cmp}
use Rattle.std.specs.declared.cmp.Ordering.TheVariants.{Less, Equal}
use Rattle.std.proofs.lemmas.Bool.{false_from_ne_true}
use Rattle.std.proofs.lemmas.Cmp.{nat_cmp_total}
use Rattle.std.proofs.lemmas.List.{get_or-take, get_or_default, length-take-le, map-append}
use Rattle.std.proofs.lemmas.List.Folds.{list_any_more}
use Rattle.std.proofs.lemmas.List.FromFn.{get_or-range_with_len, length-range_with_len}
use Rattle.std.proofs.lemmas.List.Kept.{IsStrictlySortedBy-filter}
use Rattle.std.proofs.lemmas.Map.Keys.{Less-from_sorted, sorted_from_strictly_increasing}
use Rattle.std.proofs.lemmas.Option.{same_Some, slice_get-get_or}
use Rattle.general_words.proofs.Lists.{take-next}
use Rattle.model_names.specs.Name.{Name}
use Rattle.model_names.specs.Order.{name_cmp}
use Rattle.model_names.proofs.OrderLemmas.{name_cmp_total, name_cmp-IsAntisymmetric}
use Rattle.model_maps.specs.Entry.{Entry}
use Rattle.model_maps.specs.KeyMap.{KeyMap}
use Rattle.general_words.proofs.Maps.{entries-retain}
use Rattle.set_split.specs.Involved.{involved_in, is_involved, owns}
use Rattle.set_split.specs.Parts.{owned_by}
use Rattle.set_split.specs.Seen.{numbered}
use Rattle.set_split.specs.declared.parts.Part.{Part}
use Rattle.set_split.proofs.OwningLemmas.{owner_is, place_of}

-- ---- counts

where-first : (p : Name → Bool) (e : Name × Entry) (es : List (Name × Entry))
    → length (where_key name_cmp p (e ∷ es)) ≡ cond (p e.0) 1 0 + length (where_key name_cmp p es)
where-first p e es = by (p e.0)
  where
    by : (b : Bool)
        → length (cond b (e ∷ where_key name_cmp p es) (where_key name_cmp p es))
        ≡ cond b 1 0 + length (where_key name_cmp p es)
    by true = omega arith
    by false = omega arith

-- where each name that passes one test passes one of two others, and no other name does
pub both : (p q r : Name → Bool) → ((name : Name) → cond (p name) 1 0 ≡ cond (q name) 1 0 + cond (r name) 1 0)
    → (es : List (Name × Entry))
    → length (where_key name_cmp p es) ≡ length (where_key name_cmp q es) + length (where_key name_cmp r es)
both p q r each [] = refl
both p q r each (e ∷ es) =
    let rest = both p q r each es in let first = each e.0 in omega (arith, where-first p e es, where-first q e es, where-first r e es, rest, first)

-- ---- the mounts so far

module _ (points : List Name) (keys : KeyMap) where
  -- the keys that none of some mounts owns
  abbrev pub unowned : List ℕ → KeyMap
  unowned mounts = map.retain_keys keys (λ (name : Name). not (list_any (λ i. owns points i name) mounts))

  pub unowned-none : length (map.entries keys) ≡ length (map.entries (unowned []))
  unowned-none =
      all (map.entries keys)
      ∙ ap length (sym (entries-retain name_cmp_total name_cmp-IsAntisymmetric keys (λ (name : Name). not (list_any (λ i. owns points i name) []))))
    where
      all : (es : List (Name × Entry)) → length es ≡ length (where_key name_cmp (λ (name : Name). true) es)
      all [] = refl
      all (e ∷ es) = let rest = all es in omega (arith, rest)

rising : (n : ℕ) → IsStrictlyIncreasing (range_with_len 0 n)
rising n k lt =
    let within : k + 1 < n = omega (arith, length-range_with_len 0 n) in omega (arith, get_or-range_with_len 0 n k 0 (omega arith), get_or-range_with_len 0 n (k + 1) 0 within)

-- the mounts that are involved ascend
involved-rise : (points : List Name) (parent : Name) → IsStrictlySortedBy nat_cmp (involved_in points parent)
involved-rise points parent =
    IsStrictlySortedBy-filter nat_cmp (is_involved points parent) (range_with_len 0 (length points)) (sorted_from_strictly_increasing (range_with_len 0 (length points)) (rising (length points)))

-- so none of them owns what one before it owns
apart : (points : List Name) (mounts : List ℕ) (n m : ℕ) (name : Name) → IsStrictlySortedBy nat_cmp mounts
    → n < length mounts → m ≡ get_or mounts n m → owns points m name ≡ true
    → list_any (λ i. owns points i name) (take n mounts) ≡ false
apart points mounts n m name rise lt is mine = false_from_ne_true _ (λ e.
    let before = place_of (λ i. owns points i name) (take n mounts) m e in
    let earlier : before.0 < n = omega (arith, before.1, length-take-le n mounts (omega arith)) in
    let other : ℕ = get_or (take n mounts) before.0 m in
    let same : other ≡ m = same_Some other m (sym (owner_is points other name before.2) ∙ owner_is points m name mine) in
    let less : nat_cmp (get_or mounts before.0 m) (get_or mounts n m) ≡ Less = Less-from_sorted nat_cmp mounts before.0 n m rise earlier lt in
    let tie : nat_cmp m m ≡ Less = ap₂ nat_cmp (sym same ∙ get_or-take n mounts before.0 m earlier) is ∙ less in
    let itself : nat_cmp m m ≡ Equal = tied_itself nat_cmp_total m in
    absurd cc)

-- one mount more: what it owns is no longer left aside
pub unowned-next : (points : List Name) (parent : Name) (keys : KeyMap) (n m : ℕ)
    → n < length (involved_in points parent) → m ≡ get_or (involved_in points parent) n m
    → length (map.entries (unowned points keys (take n (involved_in points parent))))
    ≡ length (map.entries (owned_by points m keys)) + length (map.entries (unowned points keys (take (n + 1) (involved_in points parent))))
unowned-next points parent keys n m lt is =
    let mounts = involved_in points parent in
    let p : Name → Bool = λ name. not (list_any (λ i. owns points i name) (take n mounts)) in
    let r : Name → Bool = λ name. not (list_any (λ i. owns points i name) (take (n + 1) mounts)) in
    ap length (entries-retain name_cmp_total name_cmp-IsAntisymmetric keys p)
    ∙ both p (owns points m) r (λ name.
    by (list_any (λ i. owns points i name) (take n mounts)) (owns points m name) (apart points mounts n m name (involved-rise points parent) lt is)
    ∙ ap (λ b. cond (owns points m name) 1 0 + cond (not b) 1 0) (ap (λ j. list_any (λ i. owns points i name) (take n mounts) || owns points j name) is ∙ sym (list_any_more (λ i. owns points i name) mounts n m lt))) (map.entries keys)
    ∙ ap₂ (λ a b. a + b) (ap length (sym (entries-retain name_cmp_total name_cmp-IsAntisymmetric keys (owns points m)))) (ap length (sym (entries-retain name_cmp_total name_cmp-IsAntisymmetric keys r)))
  where
    by : (a b : Bool) → (b ≡ true → a ≡ false) → cond (not a) 1 0 ≡ cond b 1 0 + cond (not (a || b)) 1 0
    by true true h = absurd (true≢false (h refl))
    by true false h = refl
    by false true h = refl
    by false false h = refl

-- the same by the list that is walked
pub unowned-step : (points : List Name) (parent : Name) (keys : KeyMap) (items : List ℕ) (n : ℕ)
    → items ≡ involved_in points parent → n < length items
    → length (map.entries (unowned points keys (take n items)))
    ≡ length (map.entries (owned_by points (get_or items n 0) keys)) + length (map.entries (unowned points keys (take (n + 1) items)))
unowned-step points parent keys items n is lt =
    subst (λ ms. length (map.entries (unowned points keys (take n ms))) ≡ length (map.entries (owned_by points (get_or ms n 0) keys)) + length (map.entries (unowned points keys (take (n + 1) ms)))) (sym is)
    (let within : n < length (involved_in points parent) = subst (λ ms. n < length ms) is lt in
    unowned-next points parent keys n (get_or (involved_in points parent) n 0) within (get_or_default (involved_in points parent) n 0 (get_or (involved_in points parent) n 0) within))

-- ---- the parts

-- one part more
pub parts-more : (points : List Name) (keys : KeyMap) (parts : List Part) (items : List ℕ) (n : ℕ) (part : Part)
    → n < length items → part.mount ≡ get_or items n 0 → part.keys ≡ owned_by points (get_or items n 0) keys
    → numbered parts ≡ over (λ i. (i, owned_by points i keys)) (take n items)
    → numbered (parts ++ part ∷ []) ≡ over (λ i. (i, owned_by points i keys)) (take (n + 1) items)
parts-more points keys parts items n part lt number owned so_far =
    let pair : ℕ → ℕ × KeyMap = λ i. (i, owned_by points i keys) in
    let shown : Part → ℕ × KeyMap = λ p. (p.mount, p.keys) in
    map-append shown parts (part ∷ [])
    ∙ ap₂ (λ (ps : List (ℕ × KeyMap)) (p : ℕ × KeyMap). ps ++ p ∷ []) so_far (ap₂ (λ (i : ℕ) (k : KeyMap). (i, k)) number owned)
    ∙ sym (ap (over pair) (take-next items n (get_or items n 0) (sym (slice_get-get_or items n 0 lt))) ∙ map-append pair (take n items) (get_or items n 0 ∷ []))
