-- What is found among changes, and what they make of a map, name by name.
use Rattle.std.proofs.Common.{◌≡◌, Bool, true, false, T, cond, ◌||◌, List, [], ◌∷◌, ◌++◌, filter_map, Option, Some, None, is_some, refl, sym, ap, subst, ◌∙◌}
use Rattle.std.specs.FinMap as map
use Rattle.std.specs.FinMap.{find, is_sorted}
use Rattle.std.specs.FinMap.Entries.{below_all}
use Rattle.std.specs.List.{list_any, cons_option}
use Rattle.std.specs.Option.{option_eq, option_map, unwrap_or}
use Rattle.std.specs.Ordering.{eq_by_cmp}
use Rattle.std.proofs.lemmas.List.Folds.{list_any-append}
use Rattle.model_names.specs.Name.{Name}
use Rattle.model_names.specs.Order.{name_cmp}
use Rattle.model_names.proofs.OrderLemmas.{name_cmp_total, name_cmp-IsAntisymmetric}
use Rattle.model_maps.specs.Entry.{Entry}
use Rattle.model_maps.specs.KeyMap.{KeyMap}
use Rattle.key_set.specs.Same.{same_entry}
use Rattle.key_set.proofs.SameLemmas.{entry_decides}
use Rattle.general_words.proofs.Tests.{first, second, cond_nothing}
use Rattle.general_words.proofs.Orders.{tied}
use Rattle.general_words.proofs.Lists.{some_is, none_by_test}
use Rattle.model_history.specs.Changes.{Change, Changes, change_at, named_change, difference, changed, changed_by, after}
use Rattle.general_words.proofs.Entries.{find-below}

-- ---- one name

-- the test of entries that may be missing decides whether they are the same
same_option : (x y : Option Entry) → option_eq same_entry x y ≡ true → x ≡ y
same_option None None e = refl
same_option None (Some y) e = absurd cc
same_option (Some x) None e = absurd cc
same_option (Some x) (Some y) e = ap Some ((entry_decides x y).0 e)

itself_option : (x : Option Entry) → option_eq same_entry x x ≡ true
itself_option None = refl
itself_option (Some x) = (entry_decides x x).1 refl

module _ (before wanted : KeyMap) (name : Name) where
  chosen : (b : Bool) (w : Option Entry) → cond b None (Some w) ≡ None → b ≡ true
  chosen true w e = refl
  chosen false w e = absurd cc

  given : (b : Bool) (w new : Option Entry) → cond b None (Some w) ≡ Some new → (b ≡ false) × (w ≡ new)
  given true w new e = absurd cc
  given false w new e = (refl, some_is w new e)

  pub change_at-same : map.get before name ≡ map.get wanted name → change_at before wanted name ≡ None
  change_at-same same =
      ap (λ b. cond b None (Some (map.get wanted name))) (ap (option_eq same_entry (map.get before name)) (sym same) ∙ itself_option (map.get before name))

  pub change_at-none : change_at before wanted name ≡ None → map.get before name ≡ map.get wanted name
  change_at-none none = same_option _ _ (chosen _ (map.get wanted name) none)

  pub change_at-to : (new : Option Entry) → change_at before wanted name ≡ Some new → new ≡ map.get wanted name
  change_at-to new some = sym (given _ (map.get wanted name) new some).1

  -- a change gives what was not there
  pub change_at-differs : (new : Option Entry) → change_at before wanted name ≡ Some new → new ≡ map.get before name → ⊥
  change_at-differs new some same =
      let is : map.get before name ≡ map.get wanted name = sym same ∙ change_at-to new some in
      let none : change_at before wanted name ≡ None = change_at-same is in
      absurd cc

-- ---- a difference

module _ (g : Name → Option (Option Entry)) where
  abbrev pair : Name → Option Change
  pair name = option_map (λ change. (name, change)) (g name)

  -- what is found at a name among those that a function gives to some names
  find-pairs : (q : Name) (names : List Name)
      → find name_cmp q (filter_map pair names) ≡ cond (list_any (eq_by_cmp name_cmp q) names) (g q) None
  find-pairs q [] = refl
  find-pairs q (name ∷ names) = by (find-pairs q names) (eq_by_cmp name_cmp q name) refl (g name) refl
    where
      by : find name_cmp q (filter_map pair names) ≡ cond (list_any (eq_by_cmp name_cmp q) names) (g q) None
          → (t : Bool) → eq_by_cmp name_cmp q name ≡ t → (o : Option (Option Entry)) → g name ≡ o
          → find name_cmp q (cons_option (option_map (λ change. (name, change)) o) (filter_map pair names))
          ≡ cond (t || list_any (eq_by_cmp name_cmp q) names) (g q) None
      by more true t None is =
          let none : g q ≡ None = ap g (name_cmp-IsAntisymmetric q name (tied _ t)) ∙ is in
          more ∙ cond_nothing (list_any (eq_by_cmp name_cmp q) names) (g q) none ∙ sym none
      by more true t (Some change) is =
          ap (λ b. cond b (Some change) (find name_cmp q (filter_map pair names))) t
          ∙ sym (ap g (name_cmp-IsAntisymmetric q name (tied _ t)) ∙ is)
      by more false t None is = more
      by more false t (Some change) is =
          ap (λ b. cond b (Some change) (find name_cmp q (filter_map pair names))) t ∙ more

pub get-difference : (before wanted : KeyMap) (q : Name)
    → map.get (difference before wanted) q ≡ change_at before wanted q
get-difference before wanted q =
    map.get-from_entries name_cmp_total (filter_map (named_change before wanted) (map.keys before ++ map.keys wanted)) q
    ∙ find-pairs (change_at before wanted) q (map.keys before ++ map.keys wanted)
    ∙ ap (λ b. cond b (change_at before wanted q) None) (list_any-append (eq_by_cmp name_cmp q) (map.keys before) (map.keys wanted))
    ∙ by (list_any (eq_by_cmp name_cmp q) (map.keys before)) (map.contains_key-keys before q) (list_any (eq_by_cmp name_cmp q) (map.keys wanted)) (map.contains_key-keys wanted q)
  where
    by : (a : Bool) → is_some (map.get before q) ≡ a → (b : Bool) → is_some (map.get wanted q) ≡ b
        → cond (a || b) (change_at before wanted q) None ≡ change_at before wanted q
    by true _ b _ = refl
    by false _ true _ = refl
    by false x false y = sym (change_at-same before wanted q (none_by_test _ x ∙ sym (none_by_test _ y)))

-- ---- changes made

-- one change more
pub changed_by-snoc : (changes : List Change) (change : Change) (keys : KeyMap)
    → changed_by (changes ++ change ∷ []) keys ≡ changed (changed_by changes keys) change
changed_by-snoc [] change keys = refl
changed_by-snoc (first ∷ changes) change keys = changed_by-snoc changes change (changed keys first)

-- one change: at its name what it gives, and elsewhere what was there
pub get-changed : (keys : KeyMap) (change : Change) (q : Name)
    → map.get (changed keys change) q ≡ cond (eq_by_cmp name_cmp q change.0) change.1 (map.get keys q)
get-changed keys change q = by change.1
  where
    by : (o : Option Entry)
        → map.get (changed keys (change.0, o)) q ≡ cond (eq_by_cmp name_cmp q change.0) o (map.get keys q)
    by None = map.get-remove name_cmp_total keys change.0 q
    by (Some entry) = map.get-insert name_cmp_total keys change.0 entry q

pub get-changed_by : (changes : List Change) (keys : KeyMap) (q : Name) → T (is_sorted name_cmp changes)
    → map.get (changed_by changes keys) q ≡ unwrap_or (find name_cmp q changes) (map.get keys q)
get-changed_by [] keys q h = refl
get-changed_by (change ∷ changes) keys q h =
    get-changed_by changes (changed keys change) q (second _ _ h)
    ∙ ap (unwrap_or (find name_cmp q changes)) (get-changed keys change q) ∙ by (eq_by_cmp name_cmp q change.0) refl
  where
    by : (t : Bool) → eq_by_cmp name_cmp q change.0 ≡ t
        → unwrap_or (find name_cmp q changes) (cond t change.1 (map.get keys q))
        ≡ unwrap_or (cond t (Some change.1) (find name_cmp q changes)) (map.get keys q)
    by true is =
        let same : change.0 ≡ q = sym (name_cmp-IsAntisymmetric q change.0 (tied _ is)) in
        ap (λ o. unwrap_or o change.1) (find-below name_cmp q changes (subst (λ n. T (below_all name_cmp n changes)) same (first _ _ h)))
    by false is = refl

pub get-after : (keys : KeyMap) (changes : Changes) (q : Name)
    → map.get (after keys changes) q ≡ unwrap_or (map.get changes q) (map.get keys q)
get-after keys changes q =
    get-changed_by (map.entries changes) keys q (map.entries_sorted changes)
    ∙ ap (λ o. unwrap_or o (map.get keys q)) (sym (map.get-entries changes q))

pub change_made : (before wanted : KeyMap) (q : Name)
    → unwrap_or (change_at before wanted q) (map.get before q) ≡ map.get wanted q
change_made before wanted q = by (option_eq same_entry (map.get before q) (map.get wanted q)) refl
  where
    by : (t : Bool) → option_eq same_entry (map.get before q) (map.get wanted q) ≡ t
        → unwrap_or (cond t None (Some (map.get wanted q))) (map.get before q) ≡ map.get wanted q
    by true is = same_option _ _ is
    by false is = refl

pub after-difference : (before wanted : KeyMap) → after before (difference before wanted) ≡ wanted
after-difference before wanted = map.same_map name_cmp_total name_cmp-IsAntisymmetric _ _ (λ q.
    get-after before (difference before wanted) q
    ∙ ap (λ o. unwrap_or o (map.get before q)) (get-difference before wanted q)
    ∙ change_made before wanted q)
