-- What is found under the names that lead to keys from a point, and that a file which is made of two others has its
-- keys from them.
use Rattle.std.proofs.Common.{◌≡◌, ◌⊎◌, ℕ, Bool, true, false, T, cond, List, [], ◌∷◌, drop, length, filter_map, Option, Some, None, refl, sym, ap, subst, ◌∙◌, inl, inr}
use Rattle.std.specs.FinMap as map
use Rattle.std.specs.FinMap.{find, is_sorted}
use Rattle.std.specs.FinMap.Entries.{below_all}
use Rattle.std.specs.List.{cons_option}
use Rattle.std.specs.Option.{option_map, option_or}
use Rattle.std.specs.Ordering.{eq_by_cmp}
use Rattle.general_words.proofs.Entries.{find-below}
use Rattle.general_words.proofs.Lists.{some_is}
use Rattle.general_words.proofs.Orders.{itself, tied}
use Rattle.general_words.proofs.Searches.{or_none}
use Rattle.general_words.proofs.Tests.{first, second}
use Rattle.key_name.specs.Joining.{joined, way_to}
use Rattle.key_name.proofs.WellFormedLemmas.{joined-way}
use Rattle.key_set.specs.WithAll.{with_all, with_keys}
use Rattle.key_set.proofs.WithAllLemmas.{get-with_all}
use Rattle.model_names.specs.Below.{is_at_or_below}
use Rattle.model_names.specs.Name.{Name}
use Rattle.model_names.specs.Order.{name_cmp}
use Rattle.model_names.specs.declared.namespaces.Namespace.TheVariants.{Cascading}
use Rattle.model_names.proofs.OrderLemmas.{name_cmp_total, name_cmp-IsAntisymmetric}
use Rattle.model_maps.specs.Entry.{Entry}
use Rattle.model_maps.specs.KeyMap.{KeyMap, no_keys}
use Rattle.mount_table.specs.declared.mounts.Mount.{Mount}
use Rattle.mounted_files.specs.Whole.{as_way, relative}
use Rattle.mounted_files.proofs.MapLemmas.{each-key-insert, each-none}
use Rattle.model_store.specs.Sound.{ComeFrom}
use Rattle.model_store.specs.Store.{Store, contents}

module _ (point : Name) where
  -- what leads to a name from the point leads to no other
  led : (way name : Name) → way_to point name ≡ Some way → joined point way ≡ name
  led way name is = by (is_at_or_below point name) refl is
    where
      by : (b : Bool) → is_at_or_below point name ≡ b
          → cond b (Some (record { namespace = Cascading; parts = drop (length point.parts) name.parts })) None
          ≡ Some way
          → joined point way ≡ name
      by true below e = ap (joined point) (sym (some_is _ way e)) ∙ joined-way point name below
      by false below e = absurd cc

  -- what is found under the way to a name is what stands under the name, and else what was there
  get-ways : (es : List (Name × Entry)) (keys : KeyMap) (name way : Name) → T (is_sorted name_cmp es)
      → way_to point name ≡ Some way
      → map.get (with_keys (filter_map (as_way point) es) keys) way
      ≡ option_or (find name_cmp name es) (map.get keys way)
  get-ways [] keys name way sorted is = refl
  get-ways (e ∷ es) keys name way sorted is =
      by (way_to point e.0) refl (eq_by_cmp name_cmp name e.0) refl (λ more. get-ways es more name way (second _ _ sorted) is)
    where
      same_name : eq_by_cmp name_cmp name e.0 ≡ true → name ≡ e.0
      same_name t = name_cmp-IsAntisymmetric name e.0 (tied _ t)

      other_way : (w : Name) → way_to point e.0 ≡ Some w → eq_by_cmp name_cmp name e.0 ≡ false
          → eq_by_cmp name_cmp way w ≡ false
      other_way w there off = elim (eq_by_cmp name_cmp way w) as (λ b. eq_by_cmp name_cmp way w ≡ b → b ≡ false) [
        | true ↦ λ t.
            let same : name ≡ e.0 = sym (led way name is) ∙ ap (joined point) (name_cmp-IsAntisymmetric way w (tied _ t)) ∙ led w e.0 there in
            let on : eq_by_cmp name_cmp name e.0 ≡ true = ap (λ n. eq_by_cmp name_cmp n e.0) same ∙ itself name_cmp_total e.0 in
            absurd cc
        | false ↦ λ t. refl
      ] refl

      by : (o : Option Name) → way_to point e.0 ≡ o → (b : Bool) → eq_by_cmp name_cmp name e.0 ≡ b
          → ((more : KeyMap) → map.get (with_keys (filter_map (as_way point) es) more) way ≡ option_or (find name_cmp name es) (map.get more way))
          → map.get (with_keys (cons_option (option_map {U = Name × Entry} (λ w. (w, e.1)) o) (filter_map (as_way point) es)) keys) way
          ≡ option_or (cond b (Some e.1) (find name_cmp name es)) (map.get keys way)
      by None there true t rest =
          let both : None ≡ Some way = sym there ∙ ap (way_to point) (sym (same_name t)) ∙ is in absurd cc
      by None there false t rest = rest keys
      by (Some w) there true t rest =
          let way_is : way ≡ w = some_is way w (sym is ∙ ap (way_to point) (same_name t) ∙ there) in
          let nowhere : find name_cmp name es ≡ None = find-below name_cmp name es (subst (λ n. T (below_all name_cmp n es)) (sym (same_name t)) (first _ _ sorted)) in
          rest (map.insert keys w e.1)
          ∙ ap (λ o. option_or o (map.get (map.insert keys w e.1) way)) nowhere
          ∙ map.get-insert name_cmp_total keys w e.1 way
          ∙ ap (λ b. cond b (Some e.1) (map.get keys way)) (ap (λ n. eq_by_cmp name_cmp n w) way_is ∙ itself name_cmp_total w)
      by (Some w) there false t rest =
          rest (map.insert keys w e.1)
          ∙ ap (option_or (find name_cmp name es)) (map.get-insert name_cmp_total keys w e.1 way ∙ ap (λ b. cond b (Some e.1) (map.get keys way)) (other_way w there t))

  pub get-relative : (keys : KeyMap) (name way : Name) → way_to point name ≡ Some way
      → map.get (relative point keys) way ≡ map.get keys name
  get-relative keys name way is =
      get-ways (map.entries keys) no_keys name way (map.entries_sorted keys) is
      ∙ ap (option_or (find name_cmp name (map.entries keys))) (map.get-empty {X = Entry} name_cmp way)
      ∙ or_none (find name_cmp name (map.entries keys))
      ∙ sym (map.get-entries keys name)

  -- each of these names leads to one
  abbrev Leads : Name → Type 0
  Leads way = (name : Name) × (way_to point name ≡ Some way)

  each-leads : (es : List (Name × Entry)) (keys : KeyMap)
      → ((way : Name) (entry : Entry) → map.get keys way ≡ Some entry → Leads way)
      → (way : Name) (entry : Entry) → map.get (with_keys (filter_map (as_way point) es) keys) way ≡ Some entry
      → Leads way
  each-leads [] keys each way entry found = each way entry found
  each-leads (e ∷ es) keys each way entry found =
      by (way_to point e.0) refl (λ more leads there. each-leads es more leads way entry there) found
    where
      by : (o : Option Name) → way_to point e.0 ≡ o
          → ((more : KeyMap) → ((w : Name) (x : Entry) → map.get more w ≡ Some x → Leads w) → map.get (with_keys (filter_map (as_way point) es) more) way ≡ Some entry → Leads way)
          → map.get (with_keys (cons_option (option_map {U = Name × Entry} (λ w. (w, e.1)) o) (filter_map (as_way point) es)) keys) way
          ≡ Some entry
          → Leads way
      by None there rest h = rest keys each h
      by (Some w) there rest h =
          rest (map.insert keys w e.1) (each-key-insert (λ n (x : Entry). Leads n) keys w e.1 each (e.0, there)) h

  pub relative-leads : (keys : KeyMap) (way : Name) (entry : Entry) → map.get (relative point keys) way ≡ Some entry
      → Leads way
  relative-leads keys = each-leads (map.entries keys) no_keys (each-none (λ n (x : Entry). Leads n))

-- keys have at each name what the first have, or what the second have
abbrev pub IsMix : KeyMap → KeyMap → KeyMap → Type 0
IsMix first second keys =
    (name : Name) → (map.get keys name ≡ map.get first name) ⊎ (map.get keys name ≡ map.get second name)

-- so it is with a shadow behind them,
mix-with_all : (shadow first second keys : KeyMap) → IsMix first second keys
    → IsMix (with_all first shadow) (with_all second shadow) (with_all keys shadow)
mix-with_all shadow first second keys each name = by (each name)
  where
    by : (map.get keys name ≡ map.get first name) ⊎ (map.get keys name ≡ map.get second name)
        → (map.get (with_all keys shadow) name ≡ map.get (with_all first shadow) name)
        ⊎ (map.get (with_all keys shadow) name ≡ map.get (with_all second shadow) name)
    by (inl same) =
        inl (get-with_all keys shadow name ∙ ap (λ o. option_or o (map.get shadow name)) same ∙ sym (get-with_all first shadow name))
    by (inr same) =
        inr (get-with_all keys shadow name ∙ ap (λ o. option_or o (map.get shadow name)) same ∙ sym (get-with_all second shadow name))

-- and under the names that lead there from a point
mix-relative : (point : Name) (first second keys : KeyMap) → IsMix first second keys
    → ComeFrom (relative point first) (relative point second) (relative point keys)
mix-relative point first second keys each way entry found =
    let leads = relative-leads point keys way entry found in by leads.0 leads.1 (each leads.0)
  where
    by : (name : Name) → way_to point name ≡ Some way
        → (map.get keys name ≡ map.get first name) ⊎ (map.get keys name ≡ map.get second name)
        → (map.get (relative point first) way ≡ Some entry) ⊎ (map.get (relative point second) way ≡ Some entry)
    by name is (inl same) =
        inl (get-relative point first name way is ∙ sym same ∙ sym (get-relative point keys name way is) ∙ found)
    by name is (inr same) =
        inr (get-relative point second name way is ∙ sym same ∙ sym (get-relative point keys name way is) ∙ found)

-- what a file is to hold of such keys comes from what it is to hold of the first and of the second
pub mix-contents : (store : Store) (m : ℕ) (mount : Mount) (first second keys : KeyMap) → IsMix first second keys
    → ComeFrom (contents store m mount first) (contents store m mount second) (contents store m mount keys)
mix-contents store m mount first second keys each =
    mix-relative mount.at (with_all first (store.shadow m)) (with_all second (store.shadow m)) (with_all keys (store.shadow m)) (mix-with_all (store.shadow m) first second keys each)
