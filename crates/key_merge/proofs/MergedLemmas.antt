-- What `merge3` answers is the one thing that it may.
use Rattle.std.specs.Prelude.{◌≡◌, Bool, true, false, not, List, [], ◌∷◌, Option, Some, None, cond, is_some}
use Rattle.std.proofs.Common.{refl, sym, ap, ◌∙◌, inl}
use Rattle.std.specs.FinMap as map
use Rattle.std.specs.FinMap.{entries_sorted}
use Rattle.std.specs.Option.{option_or}
use Rattle.std.proofs.lemmas.List.Kept.{IsStrictlySortedBy-filter}
use Rattle.general_words.proofs.Entries.{keys_rise}
use Rattle.key_set.specs.WithAll.{with_all}
use Rattle.key_set.proofs.WithAllLemmas.{get-with_all}
use Rattle.model_names.specs.Name.{Name}
use Rattle.model_names.specs.Order.{name_cmp}
use Rattle.model_names.proofs.OrderLemmas.{name_cmp_total, name_cmp-IsAntisymmetric}
use Rattle.model_maps.specs.Entry.{Entry}
use Rattle.model_maps.specs.KeyMap.{KeyMap}
use Rattle.key_merge.specs.declared.strategies.Strategy.{Strategy}
use Rattle.key_merge.specs.declared.choices.Choice as choices
use Rattle.key_merge.specs.declared.choices.Choice.TheVariants as choice
use Rattle.key_merge.specs.Merged.{choice_at, conflicts, is_conflict, merged, takes_their}
use Rattle.key_merge.specs.Merging.{AreConflicts, IsConflict, IsMerged, choice_of, merged_entry}
use Rattle.key_merge.proofs.NamesLemmas.{Has, contains-has, filter-has, has-contains, has-filter, has-found, one_list}

-- ---- the keys

module _ (strategy : Strategy) (base our their : KeyMap) where
  abbrev takes : Name → Bool
  takes = takes_their strategy base our their

  get-taken : (name : Name) → map.get (map.retain_keys their takes) name ≡ cond (takes name) (map.get their name) None
  get-taken name =
      map.get-retain_keys their takes name (λ other tied. ap takes (sym (name_cmp-IsAntisymmetric name other tied)))

  get-left : (name : Name)
      → map.get (map.retain_keys our (λ n. not (takes n))) name ≡ cond (not (takes name)) (map.get our name) None
  get-left name =
      map.get-retain_keys our (λ n. not (takes n)) name (λ other tied. ap (λ n. not (takes n)) (sym (name_cmp-IsAntisymmetric name other tied)))

  pub get-merged : (name : Name)
      → map.get (merged strategy base our their) name
      ≡ merged_entry strategy (map.get base name) (map.get our name) (map.get their name)
  get-merged name =
      get-with_all (map.retain_keys their takes) (map.retain_keys our (λ n. not (takes n))) name
      ∙ ap (λ found. option_or found (map.get (map.retain_keys our (λ n. not (takes n))) name)) (get-taken name)
      ∙ ap (option_or (cond (takes name) (map.get their name) None)) (get-left name)
      ∙ by (takes name) (map.get their name)
    where
      by : (b : Bool) (theirs : Option Entry)
          → option_or (cond b theirs None) (cond (not b) (map.get our name) None) ≡ cond b theirs (map.get our name)
      by true None = refl
      by true (Some entry) = refl
      by false theirs = refl

  pub merged-is : (keys : KeyMap) → IsMerged strategy base our their keys → keys ≡ merged strategy base our their
  merged-is keys is =
      map.same_map name_cmp_total name_cmp-IsAntisymmetric keys (merged strategy base our their) (λ name. is.each name ∙ sym (get-merged name))

-- ---- the names in conflict

conflict-is : (c : choices.Choice) → c ≡ choice.Conflict → is_conflict c ≡ true
conflict-is c is = ap is_conflict is

is-conflict : (c : choices.Choice) → is_conflict c ≡ true → c ≡ choice.Conflict
is-conflict choice.Our is = absurd cc
is-conflict choice.Their is = absurd cc
is-conflict choice.Conflict is = refl

module _ (base our their : KeyMap) where
  abbrev at : Name → Bool
  at name = is_conflict (choice_at base our their name)

  -- a name in conflict is in a side
  side_has : (b o t : Option Entry) → choice_of b o t ≡ choice.Conflict → is_some (option_or o t) ≡ true
  side_has b None None is = absurd cc
  side_has b None (Some entry) is = refl
  side_has b (Some entry) t is = refl

  has-conflict : (name : Name) → IsConflict base our their name → Has (conflicts base our their) name
  has-conflict name is =
      has-filter at (map.keys (with_all our their)) name (conflict-is (choice_at base our their name) is)
      (has-found (map.keys (with_all our their)) name (sym (map.contains_key-keys (with_all our their) name) ∙ ap is_some (get-with_all our their name) ∙ side_has (map.get base name) (map.get our name) (map.get their name) is))

  conflict-has : (name : Name) → Has (conflicts base our their) name → IsConflict base our their name
  conflict-has name h =
      is-conflict (choice_at base our their name) (filter-has at (map.keys (with_all our their)) name h)

  pub conflicts-are : (names : List Name) → AreConflicts base our their names → names ≡ conflicts base our their
  conflicts-are names are =
      one_list names (conflicts base our their) are.ascending
      (IsStrictlySortedBy-filter name_cmp at (map.keys (with_all our their)) (keys_rise name_cmp (map.entries (with_all our their)) (entries_sorted (with_all our their))))
      (λ name h. has-conflict name (are.only name (contains-has names name h)))
      (λ name h. has-contains names name (are.each name (conflict-has name h)))

  -- where none is in conflict there are no such names
  none : (names : List Name) → ((name : Name) → Has names name → ⊥) → names ≡ []
  none [] free = refl
  none (name ∷ names) free = absurd (free name (inl refl))

  pub no_conflicts : ((name : Name) → IsConflict base our their name → ⊥) → conflicts base our their ≡ []
  no_conflicts free = none (conflicts base our their) (λ name h. free name (conflict-has name h))
