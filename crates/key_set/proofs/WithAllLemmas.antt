-- Keys with others set among them: what is found there, and how sorted entries make them.
use Rattle.std.proofs.Common.{◌≡◌, true, false, T, cond, List, [], ◌∷◌, ◌++◌, length, Some, refl, sym, ap, subst, ◌∙◌}
use Rattle.std.specs.FinMap as map
use Rattle.std.specs.FinMap.{find, is_sorted}
use Rattle.std.specs.FinMap.Entries.{below_all, put, is_sorted-put}
use Rattle.std.specs.Option.{option_or}
use Rattle.std.specs.Ordering.{eq_by_cmp}
use Rattle.std.proofs.lemmas.List.{nil_from_length}
use Rattle.model_names.specs.Name.{Name}
use Rattle.model_names.specs.Order.{name_cmp}
use Rattle.model_names.proofs.OrderLemmas.{name_cmp_total, name_cmp-IsAntisymmetric}
use Rattle.model_maps.specs.Entry.{Entry}
use Rattle.model_maps.specs.KeyMap.{KeyMap}
use Rattle.sorted_map.specs.Merge.{put_all}
use Rattle.sorted_map.proofs.SeenLemmas.{seen}
use Rattle.key_set.specs.EntryView.{entry_of, keys_of}
use Rattle.key_set.specs.WithAll.{with_keys, with_all}
use Rattle.key_set.proofs.SetLemmas.{Keys, entries-keys, put-keys}
use Rattle.general_words.proofs.Tests.{first, second}
use Rattle.general_words.proofs.Orders.{tied}
use Rattle.general_words.proofs.Entries.{find-below}
use Rattle.general_words.proofs.Searches.{or_none}

-- others in two lists, one set after the other
pub with_keys-append : (es fs : List (Name × Entry)) (keys : KeyMap)
    → with_keys (es ++ fs) keys ≡ with_keys fs (with_keys es keys)
with_keys-append [] fs keys = refl
with_keys-append (e ∷ es) fs keys = with_keys-append es fs (map.insert keys e.0 e.1)

-- what is found among keys with others: the others' entry, and else the keys'
get-with_keys : (others : List (Name × Entry)) (keys : KeyMap) (name : Name) → T (is_sorted name_cmp others)
    → map.get (with_keys others keys) name ≡ option_or (find name_cmp name others) (map.get keys name)
get-with_keys [] keys name h = refl
get-with_keys (other ∷ others) keys name h =
    get-with_keys others (map.insert keys other.0 other.1) name (second _ _ h)
    ∙ ap (option_or (find name_cmp name others)) (map.get-insert name_cmp_total keys other.0 other.1 name)
    ∙ elim (eq_by_cmp name_cmp name other.0) as (λ b. eq_by_cmp name_cmp name other.0 ≡ b → option_or (find name_cmp name others) (cond b (Some other.1) (map.get keys name)) ≡ option_or (cond b (Some other.1) (find name_cmp name others)) (map.get keys name)) [
      | true ↦ λ is.
          let same : other.0 ≡ name = sym (name_cmp-IsAntisymmetric name other.0 (tied _ is)) in
          ap (λ found. option_or found (Some other.1)) (find-below name_cmp name others (subst (λ n. T (below_all name_cmp n others)) same (first _ _ h)))
      | false ↦ λ is. refl
    ] refl

pub get-with_all : (others keys : KeyMap) (name : Name)
    → map.get (with_all others keys) name ≡ option_or (map.get others name) (map.get keys name)
get-with_all others keys name =
    get-with_keys (map.entries others) keys name (map.entries_sorted others)
    ∙ ap (λ found. option_or found (map.get keys name)) (sym (map.get-entries others name))

put_all-keys : (others keys : Keys) → T (is_sorted name_cmp keys)
    → keys_of (put_all name_cmp others keys) ≡ with_keys (seen name_cmp entry_of others) (keys_of keys)
put_all-keys [] keys h = refl
put_all-keys (other ∷ others) keys h =
    put_all-keys others (put name_cmp other.0 other.1 keys) (is_sorted-put name_cmp name_cmp_total other.0 other.1 keys h)
    ∙ ap (with_keys (seen name_cmp entry_of others)) (put-keys keys other.0 other.1 h)

-- entries that are put among others make the map with all of them
pub with_all-keys : (others keys : Keys) → T (is_sorted name_cmp others) → T (is_sorted name_cmp keys)
    → keys_of (put_all name_cmp others keys) ≡ with_all (keys_of others) (keys_of keys)
with_all-keys others keys g h =
    put_all-keys others keys h ∙ ap (λ es. with_keys es (keys_of keys)) (sym (entries-keys others g))

-- others set among no keys are the others
pub with_all-none : (others keys : KeyMap) → length (map.entries keys) ≡ 0 → others ≡ with_all others keys
with_all-none others keys none = map.same_map name_cmp_total name_cmp-IsAntisymmetric _ _ (λ name.
    sym (get-with_all others keys name
    ∙ ap (option_or (map.get others name)) (map.get-entries keys name ∙ ap (find name_cmp name) (nil_from_length (map.entries keys) none))
    ∙ or_none (map.get others name)))
