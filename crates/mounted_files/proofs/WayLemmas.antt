-- Keys behind a point are under the names that lead there what they were, and what a mount owns of them and the rest
-- are all of them.
use Rattle.std.proofs.Common.{◌≡◌, ℕ, Bool, true, false, cond, not, T, List, [], ◌∷◌, ◌++◌, length, drop, map as over, filter_map, Option, Some, None, refl, sym, ap, ◌∙◌, inl, inr}
use Rattle.std.specs.FinMap as map
use Rattle.std.specs.FinMap.{is_sorted}
use Rattle.std.specs.FinMap.Entries.{below_all}
use Rattle.std.specs.List.{AllByRecursion, cons_option}
use Rattle.std.specs.Option.{option_map, option_or}
use Rattle.std.proofs.lemmas.List.{append-nil}
use Rattle.general_words.proofs.Lists.{all_from_places}
use Rattle.general_words.proofs.Maps.{entries-empty, get-retain}
use Rattle.general_words.proofs.Orders.{is_less, less}
use Rattle.general_words.proofs.Tests.{both, cond_some, first, second}
use Rattle.key_name.specs.Joining.{joined, way_to}
use Rattle.key_set.specs.WholeOrder.{joined_order}
use Rattle.key_set.specs.WithAll.{with_all, with_keys}
use Rattle.key_set.proofs.WithAllLemmas.{get-with_all, with_all-none}
use Rattle.model_names.specs.declared.namespaces.Namespace.TheVariants.{Cascading}
use Rattle.model_names.specs.Below.{is_at_or_below, IsBelowOrSame}
use Rattle.model_names.specs.Name.{Name, Part}
use Rattle.model_names.specs.Order.{name_cmp}
use Rattle.model_names.proofs.BelowLemmas.{is_at_or_below-Decides}
use Rattle.model_names.proofs.OrderLemmas.{name_cmp_total, name_cmp-IsAntisymmetric}
use Rattle.model_maps.specs.Entry.{Entry}
use Rattle.model_maps.specs.KeyMap.{KeyMap, no_keys}
use Rattle.set_split.specs.Involved.{owns}
use Rattle.set_split.specs.Parts.{owned_by}
use Rattle.mounted_files.specs.Owned.{not_owned_by}
use Rattle.mounted_files.specs.Sound.{AreCascading}
use Rattle.mounted_files.specs.Whole.{as_way, as_whole, relative, whole}
use Rattle.mounted_files.proofs.MapLemmas.{key-at}

-- ---- names behind a point

drop-front : (front back : List Part) → drop (length front) (front ++ back) ≡ back
drop-front [] back = refl
drop-front (part ∷ front) back = drop-front front back

joined-below : (point name : Name) → is_at_or_below point (joined point name) ≡ true
joined-below point name = (is_at_or_below-Decides point (joined point name)).1 (by name.parts refl)
  where
    by : (rest : List Part) → name.parts ≡ rest → IsBelowOrSame (joined point name) point
    by [] none =
        inl (λ i. record { namespace = point.namespace; parts = (ap (λ parts. point.parts ++ parts) none ∙ append-nil point.parts) i })
    by (part ∷ rest) some =
        inr (record { same_namespace = refl; more = name.parts; some_more = λ none. let wrong : part ∷ rest ≡ [] = sym some ∙ none in cc; parts = refl })

-- what leads from a point to a name behind it is what stands behind
pub way-joined : (point name : Name) → name.namespace ≡ Cascading → way_to point (joined point name) ≡ Some name
way-joined point name cascading =
    ap (λ b. cond b (Some (record { namespace = Cascading; parts = drop (length point.parts) (point.parts ++ name.parts) })) None) (joined-below point name)
    ∙ (λ i. Some (record { namespace = sym cascading i; parts = drop-front point.parts name.parts i }))

-- ---- keys behind a point

ways-whole : (point : Name) (es : List (Name × Entry))
    → AllByRecursion (λ (e : Name × Entry). e.0.namespace ≡ Cascading) es
    → filter_map (as_way point) (over (as_whole point) es) ≡ es
ways-whole point [] all = refl
ways-whole point (e ∷ es) all =
    ap (λ way. cons_option (option_map {U = Name × Entry} (λ w. (w, e.1)) way) (filter_map (as_way point) (over (as_whole point) es))) (way-joined point e.0 all.0)
    ∙ ap (λ rest. e ∷ rest) (ways-whole point es all.1)

-- cascading names keep their order behind a point, so keys stay sorted
below-behind : (point q : Name) (es : List (Name × Entry)) → q.namespace ≡ Cascading
    → AllByRecursion (λ (e : Name × Entry). e.0.namespace ≡ Cascading) es → T (below_all name_cmp q es)
    → T (below_all name_cmp (joined point q) (over (as_whole point) es))
below-behind point q [] cascading all below = tt
below-behind point q (e ∷ es) cascading all below =
    both _ _ (is_less _ (joined_order point q e.0 cascading all.0 (less _ (first _ _ below)))) (below-behind point q es cascading all.1 (second _ _ below))

sorted-behind : (point : Name) (es : List (Name × Entry))
    → AllByRecursion (λ (e : Name × Entry). e.0.namespace ≡ Cascading) es → T (is_sorted name_cmp es)
    → T (is_sorted name_cmp (over (as_whole point) es))
sorted-behind point [] all sorted = tt
sorted-behind point (e ∷ es) all sorted =
    both _ _ (below-behind point e.0 es all.0 all.1 (first _ _ sorted)) (sorted-behind point es all.1 (second _ _ sorted))

-- sorted entries that are set among none are those of the map
set-alone : (es : List (Name × Entry)) → T (is_sorted name_cmp es) → map.entries (with_keys es no_keys) ≡ es
set-alone es sorted =
    let all : KeyMap = map.from_sorted es in
    let same = map.entries-from_sorted name_cmp es sorted in
    ap (λ l. map.entries (with_keys l no_keys)) (sym same)
    ∙ ap map.entries (sym (with_all-none all no_keys (ap length (entries-empty name_cmp Entry))))
    ∙ same

-- the keys of a file, put behind a point, are there under the names that lead to them what they were
pub relative-whole : (point : Name) (keys : KeyMap) → AreCascading keys → relative point (whole point keys) ≡ keys
relative-whole point keys cascading =
    let all = all_from_places (λ (e : Name × Entry). e.0.namespace ≡ Cascading) (map.entries keys) (λ i e there. cascading e.0 e.1 (key-at keys i e there)) in
    let sorted = sorted-behind point (map.entries keys) all (map.entries_sorted keys) in
    ap (λ es. with_keys (filter_map (as_way point) es) no_keys) (set-alone (over (as_whole point) (map.entries keys)) sorted)
    ∙ ap (λ es. with_keys es no_keys) (ways-whole point (map.entries keys) all)
    ∙ sym (with_all-none keys no_keys (ap length (entries-empty name_cmp Entry)))

-- ---- what a mount owns, and the rest

pub parts-together : (points : List Name) (i : ℕ) (keys : KeyMap)
    → with_all (owned_by points i keys) (not_owned_by points i keys) ≡ keys
parts-together points i keys = map.same_map name_cmp_total name_cmp-IsAntisymmetric _ _ (λ name.
    get-with_all (owned_by points i keys) (not_owned_by points i keys) name
    ∙ ap (λ found. option_or found (map.get (not_owned_by points i keys) name)) (get-retain name_cmp_total name_cmp-IsAntisymmetric keys (owns points i) name)
    ∙ ap (option_or (cond (owns points i name) (map.get keys name) None)) (get-retain name_cmp_total name_cmp-IsAntisymmetric keys (λ n. not (owns points i n)) name)
    ∙ by (owns points i name) (map.get keys name))
  where
    by : (b : Bool) (found : Option Entry) → option_or (cond b found None) (cond (not b) found None) ≡ found
    by true (Some entry) = refl
    by true None = refl
    by false found = refl

pub owned-own : (points : List Name) (i : ℕ) (keys : KeyMap) (name : Name) (entry : Entry)
    → map.get (owned_by points i keys) name ≡ Some entry → owns points i name ≡ true
owned-own points i keys name entry found =
    (cond_some (owns points i name) (map.get keys name) entry (sym (get-retain name_cmp_total name_cmp-IsAntisymmetric keys (owns points i) name) ∙ found)).0
