-- Keys behind a name, as the keys of a set and as a map, and keys under the names that lead there.
use Rattle.std.proofs.Common.{◌≡◌, Bool, true, false, cond, Some, None, T, List, [], ◌∷◌, length, map as over, filter_map, refl, sym, ap, ◌∙◌}
use Rattle.std.specs.FinMap as map
use Rattle.std.specs.FinMap.{is_sorted}
use Rattle.std.specs.List.{AllByRecursion, list_all}
use Rattle.std.proofs.lemmas.List.Elements.{filter_map-append}
use Rattle.std.proofs.lemmas.List.Folds.{list_all-map}
use Rattle.chunked_map.proofs.RenameLemmas.{with_other, sorted-turned}
use Rattle.general_words.proofs.Maps.{entries-empty}
use Rattle.key_name.specs.Joining.{joined}
use Rattle.model_names.specs.declared.namespaces.Namespace.TheVariants.{Cascading}
use Rattle.model_names.specs.Name.{Name}
use Rattle.model_names.specs.Order.{name_cmp}
use Rattle.model_maps.specs.Entry.{Entry}
use Rattle.model_maps.specs.KeyMap.{KeyMap, no_keys}
use Rattle.sorted_map.proofs.SeenLemmas.{seen}
use Rattle.key_set.specs.EntryView.{entry_of, keys_of}
use Rattle.key_set.specs.WithAll.{with_keys}
use Rattle.key_set.specs.Whole.{all_fit, as_way, as_whole, fits, has_whole, whole}
use Rattle.key_set.specs.Sound.{AreSound}
use Rattle.key_set.specs.WholeOrder.{joined_order}
use Rattle.key_set.proofs.SetLemmas.{Key, Keys, entries-keys}
use Rattle.key_set.proofs.WithAllLemmas.{with_all-none, with_keys-append}

abbrev pub is_cascading : {X : Type 0} → Name × X → Type 0
is_cascading key = key.0.namespace ≡ Cascading

pub cascading-seen : (keys : Keys) → AllByRecursion is_cascading (seen name_cmp entry_of keys)
    → AllByRecursion is_cascading keys
cascading-seen [] h = tt
cascading-seen (key ∷ keys) h = (h.0, cascading-seen keys h.1)

module _ (point : Name) where
  seen-whole : (keys : Keys)
      → seen name_cmp entry_of (over (with_other (joined point)) keys)
      ≡ over (as_whole point) (seen name_cmp entry_of keys)
  seen-whole [] = refl
  seen-whole (key ∷ keys) = ap (λ es. (joined point key.0, entry_of key.1) ∷ es) (seen-whole keys)

  pub fit-keys : (keys : Keys) → T (is_sorted name_cmp keys)
      → list_all (λ (key : Key). has_whole point key.0) keys ≡ all_fit point (keys_of keys)
  fit-keys keys h =
      sym (ap (list_all (fits point)) (entries-keys keys h) ∙ list_all-map (fits point) (λ (key : Key). (key.0, entry_of key.1)) keys)

  pub whole-keys : (keys : Keys) → T (is_sorted name_cmp keys) → AllByRecursion is_cascading keys
      → keys_of (over (with_other (joined point)) keys) ≡ whole point (keys_of keys)
  whole-keys keys h cascading =
      let made : Keys = over (with_other (joined point)) keys in
      let sorted : T (is_sorted name_cmp made) = sorted-turned name_cmp (joined point) (λ (n : Name). n.namespace ≡ Cascading) (joined_order point) keys cascading h in
      with_all-none (keys_of made) no_keys (ap length (entries-empty name_cmp Entry))
      ∙ ap (λ es. with_keys es no_keys) (entries-keys made sorted ∙ seen-whole keys ∙ ap (over (as_whole point)) (sym (entries-keys keys h)))

-- where there is nothing by a test, it fails
pub none_if : {A : Type 0} (b : Bool) (x : A) → None ≡ cond b (Some x) None → b ≡ false
none_if true x e = absurd cc
none_if false x e = refl

-- ---- under the names that lead there

-- the first of some keys, and then the others
pub relative-next : (point : Name) (e : Name × Entry) (es : List (Name × Entry)) (keys : KeyMap)
    → with_keys (filter_map (as_way point) es) (with_keys (filter_map (as_way point) (e ∷ [])) keys)
    ≡ with_keys (filter_map (as_way point) (e ∷ es)) keys
relative-next point e es keys =
    sym (with_keys-append (filter_map (as_way point) (e ∷ [])) (filter_map (as_way point) es) keys)
    ∙ ap (λ all. with_keys all keys) (sym (filter_map-append (as_way point) (e ∷ []) es))

-- no keys are sound
pub sound-none : (point : Name) → AreSound point no_keys
sound-none point name entry found = absurd (let none = map.get-empty {X = Entry} name_cmp name in cc)
