-- What holds of the keys and conflicts so far, in the midst of a walk over three sets.
use Rattle.std.specs.Prelude.{◌≡◌, ◌≢◌, ◌⊎◌, ℕ, suc, ◌+◌, ◌<◌, ◌≤◌, slice_index_or, zero, Bool, true, false, T, List, [], ◌∷◌, ◌++◌, length, Option, None, Some, cond}
use Rattle.std.proofs.Common.{refl, sym, ap, subst, ◌∙◌, arith, inl, inr}
use Rattle.std.specs.FinMap as map
use Rattle.std.specs.FinMap.{find, is_sorted, entries_sorted, get-entries, get-insert, get-remove}
use Rattle.std.specs.FinMap.Entries.{below_all}
use Rattle.std.specs.List.{AllByRecursion, Contains}
use Rattle.std.specs.List.Sorted.{IsStrictlySortedBy}
use Rattle.std.specs.Ordering.{eq_by_cmp}
use Rattle.std.specs.declared.cmp.Ordering.TheVariants.{Less}
use Rattle.std.proofs.lemmas.List.Elements.{Contains-append_left, Contains-append_right, Contains-append_cases}
use Rattle.general_words.proofs.Lookups.{tied_or_not}
use Rattle.general_words.proofs.Orders.{itself}
use Rattle.general_words.proofs.Lists.{all_append}
use Rattle.model_names.specs.Name.{Name}
use Rattle.model_names.specs.Order.{name_cmp}
use Rattle.model_names.proofs.OrderLemmas.{name_cmp_total, name_cmp-IsAntisymmetric}
use Rattle.model_maps.specs.Entry.{Entry}
use Rattle.model_maps.specs.KeyMap.{KeyMap}
use Rattle.key_merge.specs.declared.strategies.Strategy.{Strategy}
use Rattle.key_merge.specs.declared.strategies.Strategy.TheVariants.{Abort, Our, Their}
use Rattle.key_merge.specs.declared.choices.Choice as choices
use Rattle.key_merge.specs.declared.choices.Choice.TheVariants as choice
use Rattle.key_merge.specs.Merging.{choice_of, is_taken_from_their, merged_entry, IsConflict, AreConflicts}
use Rattle.key_merge.specs.Front.{next_name, entry_at, behind}
use Rattle.key_merge.specs.Walk.{lower, with_entry, is_told, keys_with, names_with}
use Rattle.key_merge.proofs.LowestLemmas.{lowest-is, none-lowest}
use Rattle.key_merge.proofs.FrontLemmas.{IsTaken, taken, at_first}

module _ (strategy : Strategy) (at_base at_our at_their : KeyMap) where
  abbrev conflict_at : Name → choices.Choice
  conflict_at q = choice_of (map.get at_base q) (map.get at_our q) (map.get at_their q)

  -- a name that the walk has passed
  pub record IsPast (b o t : List (Name × Entry)) (keys : KeyMap) (names : List Name) (q : Name) : Type 0 where
    pub base : find name_cmp q b ≡ None
    pub our : find name_cmp q o ≡ None
    pub their : find name_cmp q t ≡ None
    pub merged : map.get keys q ≡ merged_entry strategy (map.get at_base q) (map.get at_our q) (map.get at_their q)
    pub told : is_told strategy (conflict_at q) ≡ true → Contains names q

  -- a name that is ahead of it, or in no set
  pub record IsAhead (b o t : List (Name × Entry)) (keys : KeyMap) (q : Name) : Type 0 where
    pub base : find name_cmp q b ≡ map.get at_base q
    pub our : find name_cmp q o ≡ map.get at_our q
    pub their : find name_cmp q t ≡ map.get at_their q
    pub still : map.get keys q ≡ map.get at_our q

  pub record IsBelowAll (b o t : List (Name × Entry)) (name : Name) : Type 0 where
    pub base : T (below_all name_cmp name b)
    pub our : T (below_all name_cmp name o)
    pub their : T (below_all name_cmp name t)

  pub record Stands (b o t : List (Name × Entry)) (keys : KeyMap) (names : List Name) : Type 0 where
    pub each : (q : Name) → IsPast b o t keys names q ⊎ IsAhead b o t keys q
    pub base_sorted : T (is_sorted name_cmp b)
    pub our_sorted : T (is_sorted name_cmp o)
    pub their_sorted : T (is_sorted name_cmp t)
    pub ascending : IsStrictlySortedBy name_cmp names
    pub only : (q : Name) → Contains names q → is_told strategy (conflict_at q) ≡ true
    pub below : AllByRecursion (IsBelowAll b o t) names

  pub starts : Stands (map.entries at_base) (map.entries at_our) (map.entries at_their) at_our []
  unfolding IsStrictlySortedBy
  starts = record {
    each = λ q. inr (record { base = sym (get-entries at_base q); our = sym (get-entries at_our q); their = sym (get-entries at_their q); still = refl });
    base_sorted = entries_sorted at_base;
    our_sorted = entries_sorted at_our;
    their_sorted = entries_sorted at_their;
    ascending = tt;
    only = λ q has. absurd (omega (arith, has.1));
    below = tt;
  }

  -- ---- a step

  get-with_entry : (name : Name) (entry : Option Entry) (keys : KeyMap) (q : Name)
      → map.get (with_entry name entry keys) q ≡ cond (eq_by_cmp name_cmp q name) entry (map.get keys q)
  get-with_entry name None keys q = get-remove name_cmp_total keys name q
  get-with_entry name (Some entry) keys q = get-insert name_cmp_total keys name entry q

  get-elsewhere : (taken : Bool) (name : Name) (entry : Option Entry) (keys : KeyMap) (q : Name)
      → eq_by_cmp name_cmp q name ≡ false → map.get (cond taken (with_entry name entry keys) keys) q ≡ map.get keys q
  get-elsewhere false name entry keys q e = refl
  get-elsewhere true name entry keys q e = get-with_entry name entry keys q ∙ ap (λ b. cond b entry (map.get keys q)) e

  get-there : (taken : Bool) (name : Name) (entry kept : Option Entry) (keys : KeyMap) (q : Name)
      → eq_by_cmp name_cmp q name ≡ true → map.get keys q ≡ kept
      → map.get (cond taken (with_entry name entry keys) keys) q ≡ cond taken entry kept
  get-there false name entry kept keys q e is = is
  get-there true name entry kept keys q e is =
      get-with_entry name entry keys q ∙ ap (λ b. cond b entry (map.get keys q)) e

  contains-more : (told : Bool) (names : List Name) (name q : Name) → Contains names q
      → Contains (cond told (names ++ name ∷ []) names) q
  contains-more false names name q has = has
  contains-more true names name q has = Contains-append_left names (name ∷ []) q has

  contains-told : (told : Bool) (names : List Name) (name : Name) → told ≡ true
      → Contains (cond told (names ++ name ∷ []) names) name
  contains-told false names name e = absurd cc
  contains-told true names name e = Contains-append_right names (name ∷ []) name (0, omega arith, refl)

  single : (name q : Name) → Contains (name ∷ []) q → q ≡ name
  single name q (k, lt, is) = at k lt is
    where
      at : (k : ℕ) → k < 1 → slice_index_or (name ∷ []) k q ≡ q → q ≡ name
      at zero lt is = sym is
      at (suc k) lt is = absurd (omega (arith, lt))

  only-more : (told : Bool) (names : List Name) (name q : Name) → Contains (cond told (names ++ name ∷ []) names) q
      → Contains names q ⊎ ((q ≡ name) × (told ≡ true))
  only-more false names name q has = inl has
  only-more true names name q has =
      elim (Contains-append_cases names (name ∷ []) q has) as (λ _. Contains names q ⊎ ((q ≡ name) × (true ≡ true))) [ inl p ↦ inl p | inr p ↦ inr (single name q p, refl) ]

  all-below : (names : List Name) (b o t b' o' t' : List (Name × Entry))
      → ((q : Name) → IsBelowAll b o t q → IsBelowAll b' o' t' q) → AllByRecursion (IsBelowAll b o t) names
      → AllByRecursion (IsBelowAll b' o' t') names
  all-below [] b o t b' o' t' step h = tt
  all-below (n ∷ names) b o t b' o' t' step h = (step n h.0, all-below names b o t b' o' t' step h.1)

  below-more : (told : Bool) (names : List Name) (name : Name) (b o t : List (Name × Entry))
      → AllByRecursion (IsBelowAll b o t) names → IsBelowAll b o t name
      → AllByRecursion (IsBelowAll b o t) (cond told (names ++ name ∷ []) names)
  below-more false names name b o t h p = h
  below-more true [] name b o t h p = (p, tt)
  below-more true (n ∷ names) name b o t h p = (h.0, below-more true names name b o t h.1 p)

  ascends-more : (told : Bool) (names : List Name) (name : Name) → IsStrictlySortedBy name_cmp names
      → AllByRecursion (λ q. name_cmp q name ≡ Less) names
      → IsStrictlySortedBy name_cmp (cond told (names ++ name ∷ []) names)
  unfolding IsStrictlySortedBy
  ascends-more false names name h p = h
  ascends-more true [] name h p = (tt, tt)
  ascends-more true (n ∷ names) name h p =
      (all_append (λ y. name_cmp n y ≡ Less) names (name ∷ []) h.0 (p.0, tt), ascends-more true names name h.1 p.1)

  all-over : (names : List Name) (name : Name) (b o t : List (Name × Entry))
      → ((q : Name) → IsBelowAll b o t q → name_cmp q name ≡ Less) → AllByRecursion (IsBelowAll b o t) names
      → AllByRecursion (λ q. name_cmp q name ≡ Less) names
  all-over [] name b o t over h = tt
  all-over (n ∷ names) name b o t over h = (over n h.0, all-over names name b o t over h.1)

  pub record Goes (b o t : List (Name × Entry)) (name : Name) : Type 0 where
    pub over : (q : Name) → IsBelowAll b o t q → name_cmp q name ≡ Less
    pub found : (find name_cmp name b ≡ None) → (find name_cmp name o ≡ None) → (find name_cmp name t ≡ None) → ⊥
    pub shorter : suc (length (behind name b) + length (behind name o) + length (behind name t)) ≤ length b + length o + length t

  goes : (b o t : List (Name × Entry)) (name : Name) → IsTaken name b → IsTaken name o → IsTaken name t
      → (next_name b ≡ Some name) ⊎ ((next_name o ≡ Some name) ⊎ (next_name t ≡ Some name)) → Goes b o t name
  goes b o t name p q r (inl e) =
      let at = at_first name b e in
      record {
        over = λ n h. at.over n h.base;
        found = λ x y z. at.found x;
        shorter = omega (arith, at.shorter, q.no_longer, r.no_longer);
      }
  goes b o t name p q r (inr (inl e)) =
      let at = at_first name o e in
      record {
        over = λ n h. at.over n h.our;
        found = λ x y z. at.found y;
        shorter = omega (arith, at.shorter, p.no_longer, r.no_longer);
      }
  goes b o t name p q r (inr (inr e)) =
      let at = at_first name t e in
      record {
        over = λ n h. at.over n h.their;
        found = λ x y z. at.found z;
        shorter = omega (arith, at.shorter, p.no_longer, q.no_longer);
      }

  -- a name that one of the sets has next is not past
  ahead_of : (b o t : List (Name × Entry)) (keys : KeyMap) (names : List Name) (name : Name) → Goes b o t name
      → IsPast b o t keys names name ⊎ IsAhead b o t keys name → IsAhead b o t keys name
  ahead_of b o t keys names name on (inl past) = absurd (on.found past.base past.our past.their)
  ahead_of b o t keys names name on (inr ahead) = ahead

  -- what the step makes, of the entries that the sets have at the name
  module _ (b o t : List (Name × Entry)) (keys : KeyMap) (names : List Name) (name : Name) (x y z : Option Entry) where
    abbrev takes : Bool
    takes = is_taken_from_their strategy (choice_of x y z)

    abbrev tells : Bool
    tells = is_told strategy (choice_of x y z)

    past_here : Stands b o t keys names → IsTaken name b → IsTaken name o → IsTaken name t → IsAhead b o t keys name
        → x ≡ map.get at_base name → y ≡ map.get at_our name → z ≡ map.get at_their name
        → IsPast (behind name b) (behind name o) (behind name t) (cond takes (with_entry name z keys) keys) (cond tells (names ++ name ∷ []) names) name
    past_here now p q r ahead ex ey ez =
        let same : choice_of x y z ≡ conflict_at name = λ i. choice_of (ex i) (ey i) (ez i) in
        record {
          base = p.gone;
          our = q.gone;
          their = r.gone;
          merged = get-there takes name z (map.get at_our name) keys name (itself name_cmp_total name) ahead.still
              ∙ ap (λ c. cond (is_taken_from_their strategy c) z (map.get at_our name)) same ∙ ap (λ w. cond (is_taken_from_their strategy (conflict_at name)) w (map.get at_our name)) ez;
          told = λ e. contains-told tells names name (ap (is_told strategy) same ∙ e);
        }

    past_or_ahead : Stands b o t keys names → IsTaken name b → IsTaken name o → IsTaken name t → IsAhead b o t keys name
        → x ≡ map.get at_base name → y ≡ map.get at_our name → z ≡ map.get at_their name → (q : Name)
        → IsPast (behind name b) (behind name o) (behind name t) (cond takes (with_entry name z keys) keys) (cond tells (names ++ name ∷ []) names) q
        ⊎ IsAhead (behind name b) (behind name o) (behind name t) (cond takes (with_entry name z keys) keys) q
    past_or_ahead now p q r ahead ex ey ez n =
        elim (tied_or_not name_cmp-IsAntisymmetric n name) as (λ _. IsPast (behind name b) (behind name o) (behind name t) (cond takes (with_entry name z keys) keys) (cond tells (names ++ name ∷ []) names) n ⊎ IsAhead (behind name b) (behind name o) (behind name t) (cond takes (with_entry name z keys) keys) n) [
          | inl apart ↦ elim (now.each n) as (λ _. IsPast (behind name b) (behind name o) (behind name t) (cond takes (with_entry name z keys) keys) (cond tells (names ++ name ∷ []) names) n ⊎ IsAhead (behind name b) (behind name o) (behind name t) (cond takes (with_entry name z keys) keys) n) [
            | inl past ↦ inl (record {
              base = p.others n apart ∙ past.base;
              our = q.others n apart ∙ past.our;
              their = r.others n apart ∙ past.their;
              merged = get-elsewhere takes name z keys n apart ∙ past.merged;
              told = λ e. contains-more tells names name n (past.told e);
            })
            | inr still ↦ inr (record {
              base = p.others n apart ∙ still.base;
              our = q.others n apart ∙ still.our;
              their = r.others n apart ∙ still.their;
              still = get-elsewhere takes name z keys n apart ∙ still.still;
            })
          ]
          | inr tied ↦ inl (subst (IsPast (behind name b) (behind name o) (behind name t) (cond takes (with_entry name z keys) keys) (cond tells (names ++ name ∷ []) names)) (sym tied.1) (past_here now p q r ahead ex ey ez))
        ]

    steps : Stands b o t keys names → IsTaken name b → IsTaken name o → IsTaken name t → Goes b o t name
        → IsAhead b o t keys name → x ≡ map.get at_base name → y ≡ map.get at_our name → z ≡ map.get at_their name
        → Stands (behind name b) (behind name o) (behind name t) (cond takes (with_entry name z keys) keys) (cond tells (names ++ name ∷ []) names)
    steps now p q r on ahead ex ey ez =
        let same : choice_of x y z ≡ conflict_at name = λ i. choice_of (ex i) (ey i) (ez i) in
        record {
          each = past_or_ahead now p q r ahead ex ey ez;
          base_sorted = p.sorted;
          our_sorted = q.sorted;
          their_sorted = r.sorted;
          ascending = ascends-more tells names name now.ascending (all-over names name b o t on.over now.below);
          only = λ n has. elim (only-more tells names name n has) as (λ _. is_told strategy (conflict_at n) ≡ true) [
            | inl earlier ↦ now.only n earlier
            | inr here ↦ subst (λ k. is_told strategy (conflict_at k) ≡ true) (sym here.0) (sym (ap (is_told strategy) same) ∙ here.1)
          ];
          below = below-more tells names name (behind name b) (behind name o) (behind name t)
              (all-below names b o t (behind name b) (behind name o) (behind name t) (λ n h. record { base = p.still n h.base; our = q.still n h.our; their = r.still n h.their }) now.below)
              (record { base = p.above; our = q.above; their = r.above });
        }

  pub record Went (b o t : List (Name × Entry)) (keys : KeyMap) (names : List Name) (name : Name) : Type 0 where
    pub stands : Stands (behind name b) (behind name o) (behind name t) (keys_with strategy name (entry_at name b) (entry_at name o) (entry_at name t) keys) (names_with strategy name (entry_at name b) (entry_at name o) (entry_at name t) names)
    pub shorter : suc (length (behind name b) + length (behind name o) + length (behind name t)) ≤ length b + length o + length t

  pub went : (b o t : List (Name × Entry)) (keys : KeyMap) (names : List Name) (name : Name) → Stands b o t keys names
      → lower (lower (next_name b) (next_name o)) (next_name t) ≡ Some name → Went b o t keys names name
  went b o t keys names name now low =
      let least = lowest-is (next_name b) (next_name o) (next_name t) name low in
      let p = taken name b now.base_sorted least.first in
      let q = taken name o now.our_sorted least.second in
      let r = taken name t now.their_sorted least.third in
      let on = goes b o t name p q r least.is in
      let ahead = ahead_of b o t keys names name on (now.each name) in
      record {
        stands = steps b o t keys names name (entry_at name b) (entry_at name o) (entry_at name t) now p q r on ahead (p.entry ∙ ahead.base) (q.entry ∙ ahead.our) (r.entry ∙ ahead.their);
        shorter = on.shorter;
      }

  -- ---- the end

  no_keys_left : (es : List (Name × Entry)) → next_name es ≡ None → es ≡ []
  no_keys_left [] e = refl
  no_keys_left (key ∷ es) e = absurd cc

  told_is : (s : Strategy) (c : choices.Choice) → is_told s c ≡ true → (s ≡ Abort) × (c ≡ choice.Conflict)
  told_is Abort choice.Conflict e = (refl, refl)
  told_is Abort choice.Our e = absurd cc
  told_is Abort choice.Their e = absurd cc
  told_is Our choice.Conflict e = absurd cc
  told_is Our choice.Our e = absurd cc
  told_is Our choice.Their e = absurd cc
  told_is Their choice.Conflict e = absurd cc
  told_is Their choice.Our e = absurd cc
  told_is Their choice.Their e = absurd cc

  no_conflict : choice_of None None None ≡ choice.Conflict → ⊥
  no_conflict e = absurd cc

  -- of a name that no set has
  nowhere : (keys : KeyMap) (q : Name) → IsAhead [] [] [] keys q
      → (map.get keys q ≡ merged_entry strategy (map.get at_base q) (map.get at_our q) (map.get at_their q))
      × (IsConflict at_base at_our at_their q → ⊥)
  nowhere keys q a = (
    a.still ∙ sym a.our ∙ (λ i. merged_entry strategy (a.base i) (a.our i) (a.their i)),
    λ conflict. no_conflict ((λ i. choice_of (a.base i) (a.our i) (a.their i)) ∙ conflict),
  )

  told_conflict : strategy ≡ Abort → (q : Name) → IsConflict at_base at_our at_their q
      → is_told strategy (conflict_at q) ≡ true
  told_conflict abort q conflict = λ i. is_told (abort i) (conflict i)

  at_end : (b o t : List (Name × Entry)) (keys : KeyMap) (names : List Name) → Stands b o t keys names
      → lower (lower (next_name b) (next_name o)) (next_name t) ≡ None → Stands [] [] [] keys names
  at_end b o t keys names now e =
      let none = none-lowest (next_name b) (next_name o) (next_name t) e in
      subst (λ es. Stands es [] [] keys names) (no_keys_left b none.0) (subst (λ es. Stands b es [] keys names) (no_keys_left o none.1) (subst (λ es. Stands b o es keys names) (no_keys_left t none.2) now))

  each_listed : (keys : KeyMap) (names : List Name) → Stands [] [] [] keys names → strategy ≡ Abort → (q : Name)
      → IsConflict at_base at_our at_their q → Contains names q
  each_listed keys names now abort q conflict = elim (now.each q) as (λ _. Contains names q) [
    | inl past ↦ past.told (told_conflict abort q conflict)
    | inr ahead ↦ absurd ((nowhere keys q ahead).1 conflict)
  ]

  one_of : (names : List Name) → names ≢ [] → (q : Name) × Contains names q
  one_of [] some = absurd (some refl)
  one_of (q ∷ names) some = (q, (0, omega arith, refl))

  pub conflicts-end : (b o t : List (Name × Entry)) (keys : KeyMap) (names : List Name) → Stands b o t keys names
      → lower (lower (next_name b) (next_name o)) (next_name t) ≡ None → names ≢ []
      → (strategy ≡ Abort) × AreConflicts at_base at_our at_their names
  conflicts-end b o t keys names now e some =
      let end = at_end b o t keys names now e in
      let one = one_of names some in
      let abort = (told_is strategy (conflict_at one.0) (end.only one.0 one.1)).0 in
      (abort, record { some = some; ascending = end.ascending; each = each_listed keys names end abort; only = λ q has. (told_is strategy (conflict_at q) (end.only q has)).1 })

  -- ---- the same of equal values

  pub starts-as : (b o t : List (Name × Entry)) (keys : KeyMap) (names : List Name) → b ≡ map.entries at_base
      → o ≡ map.entries at_our → t ≡ map.entries at_their → keys ≡ at_our → names ≡ [] → Stands b o t keys names
  starts-as b o t keys names eb eo et ek en = subst (λ es. Stands es o t keys names) (sym eb) (subst (λ es. Stands (map.entries at_base) es t keys names) (sym eo) (subst (λ es. Stands (map.entries at_base) (map.entries at_our) es keys names) (sym et)
      (subst (λ ks. Stands (map.entries at_base) (map.entries at_our) (map.entries at_their) ks names) (sym ek) (subst (λ ns. Stands (map.entries at_base) (map.entries at_our) (map.entries at_their) at_our ns) (sym en) starts))))

  pub went-as : (b o t b' o' t' : List (Name × Entry)) (keys keys' : KeyMap) (names names' : List Name) (name : Name)
      (x y z : Option Entry) (s : Strategy) → s ≡ strategy → Stands b o t keys names
      → lower (lower (next_name b) (next_name o)) (next_name t) ≡ Some name
      → b' ≡ behind name b → o' ≡ behind name o → t' ≡ behind name t → x ≡ entry_at name b → y ≡ entry_at name o
      → z ≡ entry_at name t → keys' ≡ keys_with s name x y z keys → names' ≡ names_with s name x y z names
      → Stands b' o' t' keys' names' × (suc (length b' + length o' + length t') ≤ length b + length o + length t)
  went-as b o t b' o' t' keys keys' names names' name x y z s es now low eb eo et ex ey ez ek en =
      let go = went b o t keys names name now low in
      let keys_are : keys' ≡ keys_with strategy name (entry_at name b) (entry_at name o) (entry_at name t) keys = ek ∙ (λ i. keys_with (es i) name (ex i) (ey i) (ez i) keys) in
      let names_are : names' ≡ names_with strategy name (entry_at name b) (entry_at name o) (entry_at name t) names = en ∙ (λ i. names_with (es i) name (ex i) (ey i) (ez i) names) in (
        subst (λ ns. Stands b' o' t' keys' ns) (sym names_are) (subst (λ ks. Stands b' o' t' ks (names_with strategy name (entry_at name b) (entry_at name o) (entry_at name t) names)) (sym keys_are)
            (subst (λ es. Stands es o' t' (keys_with strategy name (entry_at name b) (entry_at name o) (entry_at name t) keys) (names_with strategy name (entry_at name b) (entry_at name o) (entry_at name t) names)) (sym eb)
            (subst (λ es. Stands (behind name b) es t' (keys_with strategy name (entry_at name b) (entry_at name o) (entry_at name t) keys) (names_with strategy name (entry_at name b) (entry_at name o) (entry_at name t) names)) (sym eo)
            (subst (λ es. Stands (behind name b) (behind name o) es (keys_with strategy name (entry_at name b) (entry_at name o) (entry_at name t) keys) (names_with strategy name (entry_at name b) (entry_at name o) (entry_at name t) names)) (sym et) go.stands)))),
        omega (arith, go.shorter, ap length eb, ap length eo, ap length et),
      )
