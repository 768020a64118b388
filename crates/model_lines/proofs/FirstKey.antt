-- Where a key is the first of a map that lacks a property, every key with a lesser name has it.
use Rattle.std.specs.Prelude.{◌≡◌, ◌⊎◌, Bool, true, false, T, List, [], ◌∷◌, ◌++◌, Option, Some, None}
use Rattle.std.proofs.Common.{cond, refl, sym, ap, subst, ◌∙◌, inl, inr}
use Rattle.std.specs.FinMap as finite
use Rattle.std.specs.FinMap.{find, is_sorted}
use Rattle.std.specs.FinMap.Entries.{below_all}
use Rattle.std.specs.Ordering.{is_eq, is_lt, eq_by_cmp, ordering_reverse}
use Rattle.std.specs.declared.cmp.Ordering.{Ordering}
use Rattle.std.specs.declared.cmp.Ordering.TheVariants.{Less, Greater}
use Rattle.general_words.proofs.Tests.{first, second}
use Rattle.general_words.proofs.Orders.{less, tied}
use Rattle.model_names.specs.Name.{Name}
use Rattle.model_names.specs.Order.{name_cmp}
use Rattle.model_names.proofs.OrderLemmas.{name_cmp_total, name_cmp-IsAntisymmetric}
use Rattle.model_maps.specs.Entry.{Entry}
use Rattle.model_maps.specs.KeyMap.{KeyMap}
use Rattle.model_formats.specs.Holding.{LacksFirst}
use Rattle.model_formats.proofs.HoldingLemmas.{found-has}
use Rattle.model_lines.proofs.SortedKeys.{sorted-behind}

module _ (Has : Name → Entry → Type 0) where
  -- what is found in two lists joined is found in one of them
  find-append : (front rest : List (Name × Entry)) (name : Name) (entry : Entry)
      → find name_cmp name (front ++ rest) ≡ Some entry
      → (find name_cmp name front ≡ Some entry) ⊎ (find name_cmp name rest ≡ Some entry)
  find-append [] rest name entry found = inr found
  find-append (key ∷ front) rest name entry found =
      by (λ later. find-append front rest name entry later) (eq_by_cmp name_cmp name key.0) found
    where
      by : (find name_cmp name (front ++ rest) ≡ Some entry → (find name_cmp name front ≡ Some entry) ⊎ (find name_cmp name rest ≡ Some entry))
          → (t : Bool) → cond t (Some key.1) (find name_cmp name (front ++ rest)) ≡ Some entry
          → (cond t (Some key.1) (find name_cmp name front) ≡ Some entry) ⊎ (find name_cmp name rest ≡ Some entry)
      by more true here = inl here
      by more false later = more later

  -- a list of greater names has none that ties
  none_above : (x other : Name) (rest : List (Name × Entry)) → name_cmp other x ≡ Less → T (below_all name_cmp x rest)
      → find name_cmp other rest ≡ None
  none_above x other [] before h = refl
  none_above x other (key ∷ rest) before h =
      by (none_above x other rest before (second _ _ h)) (eq_by_cmp name_cmp other key.0) refl
    where
      by : find name_cmp other rest ≡ None → (t : Bool) → eq_by_cmp name_cmp other key.0 ≡ t
          → cond t (Some key.1) (find name_cmp other rest) ≡ None
      by more true e =
          let same = name_cmp-IsAntisymmetric other key.0 (tied (name_cmp other key.0) e) in
          let down : name_cmp x key.0 ≡ Less = less (name_cmp x key.0) (first (is_lt (name_cmp x key.0)) (below_all name_cmp x rest) h) in
          let greater : name_cmp other x ≡ Greater = name_cmp_total.antisymm other x ∙ ap ordering_reverse (ap (name_cmp x) same ∙ down) in
          let clash : ◌≡◌ {A = Ordering} Less Greater = sym before ∙ greater in
          absurd cc
      by more false e = more

  -- each key with a lesser name has the property
  pub LacksFirst-before : (keys : KeyMap) (name : Name) → LacksFirst Has keys name → (other : Name) (entry : Entry)
      → finite.get keys other ≡ Some entry → name_cmp other name ≡ Less → Has other entry
  LacksFirst-before keys name lacks other entry found before =
      let found_in : find name_cmp other (lacks.front ++ (name, lacks.entry) ∷ lacks.behind) ≡ Some entry = sym (ap (find name_cmp other) lacks.all) ∙ sym (finite.get-entries keys other) ∙ found in
      let sorted = subst (λ es. T (is_sorted name_cmp es)) lacks.all (finite.entries_sorted keys) in
      let behind : find name_cmp other ((name, lacks.entry) ∷ lacks.behind) ≡ None = ap (λ r. cond (is_eq r) (Some lacks.entry) (find name_cmp other lacks.behind)) before ∙ none_above name other lacks.behind before (sorted-behind lacks.front (name, lacks.entry) lacks.behind sorted) in
      elim (find-append lacks.front ((name, lacks.entry) ∷ lacks.behind) other entry found_in) [
        | inl there ↦ found-has Has lacks.front other entry lacks.before there
        | inr there ↦ let none : ◌≡◌ {A = Option Entry} None (Some entry) = sym behind ∙ there in absurd cc
      ]
