-- What the first keys of two walks add to changes, so that those behind them add the rest.
use Rattle.std.proofs.Common.{◌≡◌, ◌⊎◌, T, Bool, true, false, cond, List, [], ◌∷◌, drop, slice_get, Option, Some, None, is_some, MatchOption, inl, inr, refl, sym, ap, ap₂, subst, ◌∙◌}
use Rattle.std.specs.FinMap as map
use Rattle.std.specs.FinMap.{find, is_sorted}
use Rattle.std.specs.FinMap.Entries.{below_all}
use Rattle.std.specs.Option.{option_map, option_or}
use Rattle.std.specs.Ordering.{eq_by_cmp}
use Rattle.std.specs.declared.cmp.Ordering.TheVariants.{Less, Equal, Greater}
use Rattle.std.proofs.lemmas.Option.{same_Some}
use Rattle.general_words.proofs.Entries.{find-below, below_further}
use Rattle.general_words.proofs.Lookups.{tied_or_not}
use Rattle.general_words.proofs.Orders.{is_less, turned}
use Rattle.general_words.proofs.Tests.{first, both}
use Rattle.key_set.specs.Same.{same_entry}
use Rattle.model_names.specs.Name.{Name}
use Rattle.model_names.specs.Order.{name_cmp}
use Rattle.model_names.proofs.OrderLemmas.{name_cmp_total, name_cmp-IsAntisymmetric}
use Rattle.model_maps.specs.Entry.{Entry}
use Rattle.model_maps.specs.KeyMap.{KeyMap}
use Rattle.model_history.specs.Changes.{Changes, change_at}
use Rattle.store_verdict.specs.Walking.{change_between, change_of, to_come}

-- ---- the first of a list

pub first_is : {A : Type 0} (xs : List A) (x : A) → Some x ≡ slice_get xs 0 → xs ≡ x ∷ drop 1 xs
first_is [] x e = absurd cc
first_is (y ∷ xs) x e = ap (λ z. z ∷ xs) (sym (same_Some x y e))

-- ---- a walk

-- a walk that passes its first key has what was behind it
pub passes : {K : Type 0} (seen : K → Name × Entry) (at_hand next : Option K) (behind rest list : List (Name × Entry))
    → to_come (option_map seen at_hand) behind ≡ list → is_some at_hand ≡ true
    → MatchOption next ((behind ≡ []) × (rest ≡ [])) (λ key. behind ≡ seen key ∷ rest)
    → to_come (option_map seen next) rest ≡ drop 1 list
passes seen None next behind rest list view some steps = absurd cc
passes seen (Some key) None behind rest list view some steps = sym (steps.0) ∙ ap (drop 1) view
passes seen (Some key) (Some other) behind rest list view some steps = sym steps ∙ ap (drop 1) view

-- one that has none stays
pub stays : {K : Type 0} (seen : K → Name × Entry) (at_hand : Option K) (behind list : List (Name × Entry))
    → to_come (option_map seen at_hand) behind ≡ list → is_some at_hand ≡ false → list ≡ drop 1 list
stays seen None behind list view none = sym view ∙ ap (drop 1) view
stays seen (Some key) behind list view none = absurd cc

-- at first all keys are to come
pub all_to_come : (before wanted : KeyMap) (q : Name)
    → change_between (map.entries before) (map.entries wanted) q ≡ change_at before wanted q
all_to_come before wanted q = ap₂ change_of (sym (map.get-entries before q)) (sym (map.get-entries wanted q))

-- ---- a sorted list behind its first key

module _ (es : List (Name × Entry)) (e : Name × Entry) (is : es ≡ e ∷ drop 1 es) (sorted : T (is_sorted name_cmp es)) where
  pub below_behind : T (below_all name_cmp e.0 (drop 1 es))
  below_behind = first _ _ (subst (λ l. T (is_sorted name_cmp l)) is sorted)

pub below_both : (x : Name) (es : List (Name × Entry)) (e : Name × Entry) → es ≡ e ∷ drop 1 es
    → T (is_sorted name_cmp es) → name_cmp x e.0 ≡ Less → T (below_all name_cmp x es)
below_both x es e is sorted lt =
    subst (λ l. T (below_all name_cmp x l)) (sym is) (both _ _ (is_less _ lt) (below_further name_cmp_total x e.0 (drop 1 es) lt (below_behind es e is sorted)))

pub below_none : (x : Name) (es : List (Name × Entry)) → es ≡ [] → T (below_all name_cmp x es)
below_none x es is = subst (λ l. T (below_all name_cmp x l)) (sym is) tt

pub greater-less : (x y : Name) → name_cmp x y ≡ Greater → name_cmp y x ≡ Less
greater-less x y e = turned name_cmp_total x y Greater e

pub tied-same : (x y : Name) → name_cmp x y ≡ Equal → x ≡ y
tied-same x y e = name_cmp-IsAntisymmetric x y e

-- ---- what is found behind the first key

passed : (q : Name) (e : Name × Entry) (es : List (Name × Entry)) → eq_by_cmp name_cmp q e.0 ≡ false
    → find name_cmp q (e ∷ es) ≡ find name_cmp q es
passed q e es other = ap (λ b. cond b (Some e.1) (find name_cmp q es)) other

here : (q : Name) (e : Name × Entry) (es : List (Name × Entry)) → eq_by_cmp name_cmp q e.0 ≡ true
    → find name_cmp q (e ∷ es) ≡ Some e.1
here q e es tied = ap (λ b. cond b (Some e.1) (find name_cmp q es)) tied

gone : (q name : Name) (es : List (Name × Entry)) → q ≡ name → T (below_all name_cmp name es)
    → find name_cmp q es ≡ None
gone q name es is below = find-below name_cmp q es (subst (λ n. T (below_all name_cmp n es)) (sym is) below)

-- ---- one change more

-- where a change is all that two lists have to add at its name, and nothing changes elsewhere
added : (q name : Name) (changes : Changes) (change : Option Entry) (before after : Option (Option Entry))
    → (eq_by_cmp name_cmp q name ≡ false → after ≡ before)
    → (eq_by_cmp name_cmp q name ≡ true → q ≡ name → (after ≡ None) × (before ≡ Some change))
    → option_or after (map.get (map.insert changes name change) q) ≡ option_or before (map.get changes q)
added q name changes change before after away there =
    ap (option_or after) (map.get-insert name_cmp_total changes name change q)
    ∙ by (tied_or_not {R = name_cmp} name_cmp-IsAntisymmetric q name)
  where
    by : (eq_by_cmp name_cmp q name ≡ false) ⊎ ((eq_by_cmp name_cmp q name ≡ true) × (q ≡ name))
        → option_or after (cond (eq_by_cmp name_cmp q name) (Some change) (map.get changes q))
        ≡ option_or before (map.get changes q)
    by (inl other) =
        ap (λ b. option_or after (cond b (Some change) (map.get changes q))) other
        ∙ ap (λ o. option_or o (map.get changes q)) (away other)
    by (inr same) =
        let at = there same.0 same.1 in
        ap₂ (λ o b. option_or o (cond b (Some change) (map.get changes q))) at.0 same.0
        ∙ sym (ap (λ o. option_or o (map.get changes q)) at.1)

module _ (changes next : Changes) (q : Name) where
  -- what becomes of the name: it was changed before, or is by the keys that are to come
  abbrev comes_to : Changes → List (Name × Entry) → List (Name × Entry) → Option (Option Entry)
  comes_to before had wanted = option_or (change_between had wanted q) (map.get before q)

  -- a name that is wanted no more
  pub removal : (had rest wanted : List (Name × Entry)) (e : Name × Entry) → had ≡ e ∷ rest
      → T (below_all name_cmp e.0 rest) → T (below_all name_cmp e.0 wanted) → next ≡ map.insert changes e.0 None
      → comes_to next rest wanted ≡ comes_to changes had wanted
  removal had rest wanted e is below beside made =
      ap (λ m. comes_to m rest wanted) made
      ∙ added q e.0 changes None (change_between (e ∷ rest) wanted q) (change_between rest wanted q)
      (λ other. sym (ap (λ o. change_of o (find name_cmp q wanted)) (passed q e rest other)))
      (λ tied same. (ap₂ change_of (gone q e.0 rest same below) (gone q e.0 wanted same beside), ap₂ change_of (here q e rest tied) (gone q e.0 wanted same beside)))
      ∙ ap (λ l. comes_to changes l wanted) (sym is)

  -- a name that is new
  pub entry : (had wanted rest : List (Name × Entry)) (e : Name × Entry) → wanted ≡ e ∷ rest
      → T (below_all name_cmp e.0 rest) → T (below_all name_cmp e.0 had) → next ≡ map.insert changes e.0 (Some e.1)
      → comes_to next had rest ≡ comes_to changes had wanted
  entry had wanted rest e is below beside made =
      ap (λ m. comes_to m had rest) made
      ∙ added q e.0 changes (Some e.1) (change_between had (e ∷ rest) q) (change_between had rest q)
      (λ other. sym (ap (λ o. change_of (find name_cmp q had) o) (passed q e rest other)))
      (λ tied same. (ap₂ change_of (gone q e.0 had same beside) (gone q e.0 rest same below), ap₂ change_of (gone q e.0 had same beside) (here q e rest tied)))
      ∙ ap (λ l. comes_to changes had l) (sym is)

  -- a name that both have
  module _ (name : Name) (old new : Entry) (had_rest wanted_rest : List (Name × Entry)) (below : T (below_all name_cmp name had_rest)) (beside : T (below_all name_cmp name wanted_rest)) where
    abbrev before : Option (Option Entry)
    before = change_between ((name, old) ∷ had_rest) ((name, new) ∷ wanted_rest) q

    abbrev after : Option (Option Entry)
    after = change_between had_rest wanted_rest q

    elsewhere : eq_by_cmp name_cmp q name ≡ false → after ≡ before
    elsewhere other = sym (ap₂ change_of (passed q (name, old) had_rest other) (passed q (name, new) wanted_rest other))

    nothing : q ≡ name → after ≡ None
    nothing same = ap₂ change_of (gone q name had_rest same below) (gone q name wanted_rest same beside)

    at_name : eq_by_cmp name_cmp q name ≡ true → before ≡ cond (same_entry old new) None (Some (Some new))
    at_name tied = ap₂ change_of (here q (name, old) had_rest tied) (here q (name, new) wanted_rest tied)

    kept_or_changed : (b : Bool) → same_entry old new ≡ b → next ≡ cond b changes (map.insert changes name (Some new))
        → option_or after (map.get next q) ≡ option_or before (map.get changes q)
    kept_or_changed true is made =
        ap (λ m. option_or after (map.get m q)) made
        ∙ ap (λ o. option_or o (map.get changes q)) (by (tied_or_not {R = name_cmp} name_cmp-IsAntisymmetric q name))
      where
        by : (eq_by_cmp name_cmp q name ≡ false) ⊎ ((eq_by_cmp name_cmp q name ≡ true) × (q ≡ name)) → after ≡ before
        by (inl other) = elsewhere other
        by (inr same) = nothing same.1 ∙ sym (at_name same.0 ∙ ap (λ b. cond b None (Some (Some new))) is)
    kept_or_changed false is made =
        ap (λ m. option_or after (map.get m q)) made
        ∙ added q name changes (Some new) before after elsewhere (λ tied same. (nothing same, at_name tied ∙ ap (λ b. cond b None (Some (Some new))) is))

  pub changed : (had had_rest wanted wanted_rest : List (Name × Entry)) (name : Name) (old new : Entry)
      → had ≡ (name, old) ∷ had_rest → wanted ≡ (name, new) ∷ wanted_rest → T (below_all name_cmp name had_rest)
      → T (below_all name_cmp name wanted_rest)
      → next ≡ cond (same_entry old new) changes (map.insert changes name (Some new))
      → comes_to next had_rest wanted_rest ≡ comes_to changes had wanted
  changed had had_rest wanted wanted_rest name old new is wanted_is below beside made =
      kept_or_changed name old new had_rest wanted_rest below beside (same_entry old new) refl made
      ∙ ap₂ (comes_to changes) (sym is) (sym wanted_is)
