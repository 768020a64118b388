-- A commit weighs, besides its own, no more than the map before it and the map after it: a change has an entry in one
-- of them.
use Rattle.std.proofs.Common.{◌≡◌, ◌+◌, ◌≤◌, Bool, true, false, T, cond, List, [], ◌∷◌, Option, Some, None, refl, sym, ap, subst, ◌∙◌, arith}
use Rattle.std.specs.Prelude.{sum_by}
use Rattle.std.specs.FinMap as map
use Rattle.std.specs.FinMap.{find, is_sorted}
use Rattle.std.specs.FinMap.Entries.{below_all}
use Rattle.std.specs.Option.{unwrap_or}
use Rattle.std.specs.Ordering.{eq_by_cmp}
use Rattle.std.proofs.lemmas.List.Sums.{sum_by-cons}
use Rattle.general_words.proofs.Entries.{find-below}
use Rattle.general_words.proofs.Maps.{insert-remove, sum_by-insert}
use Rattle.general_words.proofs.Orders.{itself, tied}
use Rattle.general_words.proofs.Tests.{first, second}
use Rattle.model_names.specs.Name.{Name}
use Rattle.model_names.specs.Order.{name_cmp}
use Rattle.model_names.proofs.OrderLemmas.{name_cmp_total, name_cmp-IsAntisymmetric}
use Rattle.model_maps.specs.Entry.{Entry}
use Rattle.model_maps.specs.KeyMap.{KeyMap, weight, weight_of_key}
use Rattle.model_history.specs.Changes.{Change, Changes, after}
use Rattle.model_history.specs.History.{weight_of_change}
use Rattle.model_history.proofs.ChangeLemmas.{get-after}

-- a map weighs what it weighs without a key, and that key
removed : (keys : KeyMap) (name : Name) (entry : Entry) → map.get keys name ≡ Some entry
    → weight keys ≡ weight (map.remove keys name) + weight_of_key name entry
removed keys name entry there =
    ap weight (sym back)
    ∙ sum_by-insert name_cmp_total (λ key. weight_of_key key.0 key.1) (map.remove keys name) name entry gone
  where
    gone : map.get (map.remove keys name) name ≡ None
    gone =
        map.get-remove name_cmp_total keys name name
        ∙ ap (λ b. cond b None (map.get keys name)) (itself name_cmp_total name)

    at : (q : Name) (b : Bool) → eq_by_cmp name_cmp q name ≡ b → cond b (Some entry) (map.get keys q) ≡ map.get keys q
    at q true is = sym (ap (map.get keys) (name_cmp-IsAntisymmetric q name (tied _ is)) ∙ there)
    at q false is = refl

    back : map.insert (map.remove keys name) name entry ≡ keys
    back =
        insert-remove name_cmp_total name_cmp-IsAntisymmetric keys name entry
        ∙ map.same_map name_cmp_total name_cmp-IsAntisymmetric _ _ (λ q. map.get-insert name_cmp_total keys name entry q ∙ at q (eq_by_cmp name_cmp q name) refl)

-- a change that takes a key away has it in the one map, and another gives it to the other map
abbrev HasEntry : KeyMap → KeyMap → Name → Option Entry → Type 0
HasEntry before later name None = (entry : Entry) × (map.get before name ≡ Some entry)
HasEntry before later name (Some entry) = map.get later name ≡ Some entry

abbrev EachHasEntry : KeyMap → KeyMap → List Change → Type 0
EachHasEntry before later changes =
    (q : Name) (new : Option Entry) → find name_cmp q changes ≡ Some new → HasEntry before later q new

-- what is found behind a change has another name
module _ (name : Name) (new : Option Entry) (changes : List Change) (below : T (below_all name_cmp name changes)) where
  other : (q : Name) (found : Option Entry) → find name_cmp q changes ≡ Some found → eq_by_cmp name_cmp q name ≡ false
  other q found is = elim (eq_by_cmp name_cmp q name) as (λ b. eq_by_cmp name_cmp q name ≡ b → b ≡ false) [
    | true ↦ λ same.
        let none : find name_cmp q changes ≡ None = find-below name_cmp q changes (subst (λ n. T (below_all name_cmp n changes)) (sym (name_cmp-IsAntisymmetric q name (tied _ same))) below) in
        absurd cc
    | false ↦ λ differ. refl
  ] refl

  behind : (before later : KeyMap) → EachHasEntry before later ((name, new) ∷ changes)
      → EachHasEntry before later changes
  behind before later each q found is =
      each q found (ap (λ b. cond b (Some new) (find name_cmp q changes)) (other q found is) ∙ is)

  here : (before later : KeyMap) → EachHasEntry before later ((name, new) ∷ changes) → HasEntry before later name new
  here before later each =
      each name new (ap (λ b. cond b (Some new) (find name_cmp name changes)) (itself name_cmp_total name))

  kept : (keys : KeyMap) (q : Name) (found : Option Entry) → find name_cmp q changes ≡ Some found
      → map.get (map.remove keys name) q ≡ map.get keys q
  kept keys q found is =
      map.get-remove name_cmp_total keys name q ∙ ap (λ b. cond b None (map.get keys q)) (other q found is)

  without_first : (before later : KeyMap) → EachHasEntry before later ((name, new) ∷ changes)
      → EachHasEntry (map.remove before name) later changes
  without_first before later each q found is = by found (kept before q found is) (behind before later each q found is)
    where
      by : (o : Option Entry) → map.get (map.remove before name) q ≡ map.get before q → HasEntry before later q o
          → HasEntry (map.remove before name) later q o
      by None same has = (has.0, same ∙ has.1)
      by (Some entry) same has = has

  without_second : (before later : KeyMap) → EachHasEntry before later ((name, new) ∷ changes)
      → EachHasEntry before (map.remove later name) changes
  without_second before later each q found is = by found (kept later q found is) (behind before later each q found is)
    where
      by : (o : Option Entry) → map.get (map.remove later name) q ≡ map.get later q → HasEntry before later q o
          → HasEntry before (map.remove later name) q o
      by None same has = has
      by (Some entry) same has = same ∙ has

lighter : (name : Name) (entry : Entry) → weight_of_change (name, None) ≤ weight_of_key name entry
lighter name entry = omega arith

as_light : (name : Name) (entry : Entry) → weight_of_change (name, Some entry) ≤ weight_of_key name entry
as_light name entry = omega arith

light : (changes : List Change) → T (is_sorted name_cmp changes) → (before later : KeyMap)
    → EachHasEntry before later changes → sum_by weight_of_change changes ≤ weight before + weight later
light [] sorted before later each = omega arith
light (change ∷ changes) sorted before later each =
    by change.0 change.1 (first _ _ sorted) each (light changes (second _ _ sorted))
  where
    by : (name : Name) (new : Option Entry) → T (below_all name_cmp name changes)
        → EachHasEntry before later ((name, new) ∷ changes)
        → ((before later : KeyMap) → EachHasEntry before later changes → sum_by weight_of_change changes ≤ weight before + weight later)
        → sum_by weight_of_change ((name, new) ∷ changes) ≤ weight before + weight later
    by name None below each rest =
        let has = here name None changes below before later each in
        let others = rest (map.remove before name) later (without_first name None changes below before later each) in
        omega (arith, sum_by-cons weight_of_change (name, None) changes, removed before name has.0 has.1, lighter name has.0, others)
    by name (Some entry) below each rest =
        let has = here name (Some entry) changes below before later each in
        let others = rest before (map.remove later name) (without_second name (Some entry) changes below before later each) in
        omega (arith, sum_by-cons weight_of_change (name, Some entry) changes, removed later name entry has, as_light name entry, others)

-- changes that give what a map has not weigh no more than that map and the map after them
pub changes_light : (before : KeyMap) (changes : Changes)
    → ((q : Name) (new : Option Entry) → find name_cmp q (map.entries changes) ≡ Some new → new ≡ map.get before q → ⊥)
    → sum_by weight_of_change (map.entries changes) ≤ weight before + weight (after before changes)
changes_light before changes differs =
    light (map.entries changes) (map.entries_sorted changes) before (after before changes) each
  where
    each : EachHasEntry before (after before changes) (map.entries changes)
    each q None found = there (map.get before q) refl
      where
        there : (o : Option Entry) → map.get before q ≡ o → (entry : Entry) × (map.get before q ≡ Some entry)
        there None none = absurd (differs q None found (sym none))
        there (Some entry) is = (entry, is)
    each q (Some entry) found =
        get-after before changes q ∙ ap (λ o. unwrap_or o (map.get before q)) (map.get-entries changes q ∙ found)
