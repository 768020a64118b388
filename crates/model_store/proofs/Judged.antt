-- What follows from a verdict: a set that passed has fronts and fits its files; a set that commits is blocked by
-- nothing and is light.
use Rattle.std.proofs.Common.{◌≡◌, ◌≢◌, ℕ, ◌≤◌, Bool, true, false, cond, nat_lt, List, [], ◌∷◌, ◌++◌, Option, Some, None, refl, sym, ap, subst, ◌∙◌, inl, inr, ltb-false}
use Rattle.std.specs.Option.{option_map, option_or, option_and_then}
use Rattle.general_words.specs.Saturated.{saturated}
use Rattle.general_words.specs.Searches.{first_some}
use Rattle.general_words.proofs.Searches.{none_before, none_behind}
use Rattle.model_names.specs.Name.{Name}
use Rattle.model_maps.specs.KeyMap.{KeyMap, weight, heaviest_map}
use Rattle.model_history.specs.Changes.{after}
use Rattle.model_history.specs.History as past
use Rattle.model_history.specs.History.{is_among, history_weight, heaviest_history}
use Rattle.model_specified.specs.declared.violations.Violation.{Violation}
use Rattle.mounted_files.specs.Setting.{first_long_in}
use Rattle.mounted_files.specs.Short.{AreShort}
use Rattle.mounted_files.proofs.ChangeLemmas.{owned-short}
use Rattle.model_store.specs.Store.{Store, Formats, points_of}
use Rattle.model_store.specs.Fitting.{Fits, ValueTooLong, too_heavy, too_long, bad_table, IsStorableAt}
use Rattle.model_store.specs.Rules.{FirstBreach, KeepRules}
use Rattle.model_store.specs.Sets.{Prepared}
use Rattle.model_store.specs.Verdicts.{Late, Conflict, Invalid, DatabaseFull, HistoryFull, Commits, Follows, Checks, IsEarly, IsLate, FromFormats, wanted_in, if_unseen, not_fetched, long_value, before_formats, blocking_behind, conflict_at, conflict, commit_of, if_untouched, if_heavy, if_full, too_large}
use Rattle.model_store.proofs.Members.{from_all, nothing_at}
use Rattle.model_store.proofs.Owners.{owned-among}
use Rattle.model_store.proofs.VerdictLemmas.{skipped, unruled, some_touched, not_same, not_conflict, not_large, not_limited}

-- where an answer is nothing, no step tells anything
nothing-follows : {A : Type 0} (o : Option A) (P : Type 0) → Follows o None P → (o ≡ None) × P
nothing-follows None P h = (refl, h)
nothing-follows (Some told) P h = absurd cc

-- ---- before the history

pub record HasPassed (formats : Formats) (store : Store) (set : Prepared) : Type 0 where
  pub fetched : (m : ℕ) → is_among set.involved m ≡ true → (front : ℕ) × (set.fronts m ≡ Some front)
  pub fits : (m : ℕ) → is_among set.touched m ≡ true → Fits formats store (wanted_in store set) m
  pub short : first_long_in (points_of store) set.involved set.keys ≡ None

seen : (m : ℕ) (o : Option ℕ) → if_unseen m o ≡ None → (front : ℕ) × (o ≡ Some front)
seen m None e = absurd cc
seen m (Some front) e = (front, refl)

pub has_passed : (formats : Formats) (store : Store) (set : Prepared) → IsEarly formats store set None
    → HasPassed formats store set
has_passed formats store set early =
    let first = nothing-follows (before_formats store set) _ early in
    let behind = none_behind (not_fetched set) (option_or (long_value store set) (first_some (too_heavy store (wanted_in store set)) set.touched)) first.0 in
    let heavy = none_behind (long_value store set) (first_some (too_heavy store (wanted_in store set)) set.touched) behind in
    passed heavy (no_long _ (none_before (long_value store set) _ behind)) (none_before (not_fetched set) _ first.0) first.1
  where
    no_long : (o : Option (Name × ℕ)) → option_map (λ (long : Name × ℕ). ValueTooLong long.0 long.1) o ≡ None → o ≡ None
    no_long None none = refl
    no_long (Some long) none = absurd cc

    passed : first_some (too_heavy store (wanted_in store set)) set.touched ≡ None
        → first_long_in (points_of store) set.involved set.keys ≡ None → not_fetched set ≡ None
        → FromFormats formats store set None → HasPassed formats store set
    passed heavy short fetched (inl breaks) = let is = breaks.is in absurd cc
    passed heavy short fetched (inr can) = record {
      fetched = λ m among. seen m (set.fronts m) (nothing_at (λ n. if_unseen n (set.fronts n)) set.involved m fetched among);
      fits = λ m among. record {
        light = nothing_at (too_heavy store (wanted_in store set)) set.touched m heavy among;
        storable = from_all (IsStorableAt formats store (wanted_in store set)) set.touched m can.0 among;
        short = nothing_at (too_long formats store (wanted_in store set)) set.touched m (none_before _ (first_some (bad_table store (wanted_in store set)) set.touched) (sym can.1)) among;
        table = nothing_at (bad_table store (wanted_in store set)) set.touched m (none_behind (first_some (too_long formats store (wanted_in store set)) set.touched) _ (sym can.1)) among;
      };
      short = short;
    }

-- what is wanted for an involved mount has no text that is too long
pub wanted_short : (formats : Formats) (store : Store) (set : Prepared) (m : ℕ) → HasPassed formats store set
    → is_among set.involved m ≡ true → AreShort (wanted_in store set m)
wanted_short formats store set m passed among =
    owned-short (points_of store) set.keys set.involved passed.short m (λ name mine. owned-among (points_of store) set.involved m name among mine)

-- ---- by the history

pub record IsCommitted (formats : Formats) (store : Store) (history : List past.Commit) (keys : KeyMap) (set : Prepared) (commit : past.Commit) : Type 0 where
  pub some : set.touched ≢ []
  pub free : conflict store history set ≡ None
  pub small : too_large formats store keys set ≡ None
  pub valid : KeepRules (points_of store) set.touched (after keys set.changes)
  pub light : weight (after keys set.changes) ≤ heaviest_map
  pub not_full : history_weight (history ++ commit_of set ∷ []) ≤ heaviest_history
  pub is : commit ≡ commit_of set

abbrev is_commit : Late → Bool
is_commit (Commits commit aside) = true
is_commit late = false

within : (n limit : ℕ) (told : Late) → cond (nat_lt limit n) (Some told) None ≡ None → n ≤ limit
within n limit told e = elim (nat_lt limit n) as (λ b. nat_lt limit n ≡ b → cond b (Some told) None ≡ None → n ≤ limit) [
  | true ↦ λ is h. absurd cc
  | false ↦ λ is h. ltb-false limit n is
] refl e

pub is_committed : (formats : Formats) (store : Store) (history : List past.Commit) (keys : KeyMap) (set : Prepared)
    (commit : past.Commit) (aside : ℕ) → IsLate formats store history keys set (Commits commit aside)
    → IsCommitted formats store history keys set commit
is_committed formats store history keys set commit aside late =
    let is : Late = Commits commit aside in
    let touched = skipped (if_untouched set.touched set.aside) is _ (λ e. let off : is_commit is ≡ false = not_same is_commit set.touched set.aside is refl e in absurd cc) late in
    let free = skipped (conflict store history set) is _ (λ e. let off : is_commit is ≡ false = not_conflict is_commit store history set set.touched is (λ m by. refl) e in absurd cc) touched.1 in
    let small = skipped (too_large formats store keys set) is _ (λ e. let off : is_commit is ≡ false = not_large is_commit formats store (after keys set.changes) set.touched is (λ m size. refl) e in absurd cc) free.1 in
    let valid = unruled (points_of store) keys set is _ (λ violation risen e. let off : is_commit is ≡ false = ap is_commit e in absurd cc) small.1 in
    let w : ℕ = weight (after keys set.changes) in
    let light = skipped (if_heavy w) is _ (λ e. let off : is_commit is ≡ false = not_limited is_commit (nat_lt heaviest_map w) (DatabaseFull (saturated w)) is refl e in absurd cc) valid.1 in
    let h : ℕ = history_weight (history ++ commit_of set ∷ []) in
    let full = skipped (if_full h) is _ (λ e. let off : is_commit is ≡ false = not_limited is_commit (nat_lt heaviest_history h) (HistoryFull (saturated h)) is refl e in absurd cc) light.1 in
    record {
      some = some_touched set.touched set.aside touched.0;
      free = free.0;
      small = small.0;
      valid = valid.0;
      light = within w heaviest_map (DatabaseFull (saturated w)) light.0;
      not_full = within h heaviest_history (HistoryFull (saturated h)) full.0;
      is = same commit (commit_of set) aside set.aside full.1;
    }
  where
    same : (c d : past.Commit) (n k : ℕ) → Commits c n ≡ Commits d k → c ≡ d
    same c d n k e = cc

abbrev pub is_invalid : Late → Bool
is_invalid (Invalid violation risen) = true
is_invalid late = false

-- a set that is refused by the rules has this first violation
pub is_breach : (formats : Formats) (store : Store) (history : List past.Commit) (keys : KeyMap) (set : Prepared)
    (violation : Violation) (risen : Bool) → IsLate formats store history keys set (Invalid violation risen)
    → FirstBreach (points_of store) set.touched (after keys set.changes) violation risen
is_breach formats store history keys set violation risen late =
    let is : Late = Invalid violation risen in
    let touched = skipped (if_untouched set.touched set.aside) is _ (λ e. let off : is_invalid is ≡ false = not_same is_invalid set.touched set.aside is refl e in absurd cc) late in
    let free = skipped (conflict store history set) is _ (λ e. let off : is_invalid is ≡ false = not_conflict is_invalid store history set set.touched is (λ m by. refl) e in absurd cc) touched.1 in
    let small = skipped (too_large formats store keys set) is _ (λ e. let off : is_invalid is ≡ false = not_large is_invalid formats store (after keys set.changes) set.touched is (λ m size. refl) e in absurd cc) free.1 in
    by small.1
  where
    points : List Name
    points = points_of store

    is : Late
    is = Invalid violation risen

    w : ℕ
    w = weight (after keys set.changes)

    h : ℕ
    h = history_weight (history ++ commit_of set ∷ [])

    of : (other : Violation) (rose : Bool) → Invalid violation risen ≡ Invalid other rose
        → FirstBreach points set.touched (after keys set.changes) other rose
        → FirstBreach points set.touched (after keys set.changes) violation risen
    of other rose e first = let same : other ≡ violation = cc in let so : rose ≡ risen = cc in
        subst (λ r. FirstBreach points set.touched (after keys set.changes) violation r) so (subst (λ v. FirstBreach points set.touched (after keys set.changes) v rose) same first)

    by : Checks points keys set (Invalid violation risen) (Follows (if_heavy w) (Some is) (Follows (if_full h) (Some is) (is ≡ Commits (commit_of set) set.aside)))
        → FirstBreach points set.touched (after keys set.changes) violation risen
    by (inl breaks) = of breaks.violation breaks.risen breaks.is breaks.first
    by (inr kept) =
        let light = skipped (if_heavy w) is _ (λ e. let off : is_invalid is ≡ false = not_limited is_invalid (nat_lt heaviest_map w) (DatabaseFull (saturated w)) is refl e in absurd cc) kept.1 in
        let full = skipped (if_full h) is _ (λ e. let off : is_invalid is ≡ false = not_limited is_invalid (nat_lt heaviest_history h) (HistoryFull (saturated h)) is refl e in absurd cc) light.1 in
        let off : is_invalid is ≡ false = ap is_invalid full.1 in
        absurd cc

-- a mount of a set that commits is blocked by nothing
pub not_blocked : (store : Store) (history : List past.Commit) (set : Prepared) (m front : ℕ)
    → conflict store history set ≡ None → is_among set.touched m ≡ true → set.fronts m ≡ Some front
    → blocking_behind store history set m front ≡ None
not_blocked store history set m front free among is =
    by (blocking_behind store history set m front) refl (nothing_at (conflict_at store history set) set.touched m free among)
  where
    by : (o : Option ℕ) → blocking_behind store history set m front ≡ o → conflict_at store history set m ≡ None
        → blocking_behind store history set m front ≡ None
    by None e none = e
    by (Some n) e none =
        let told : conflict_at store history set m ≡ Some (Conflict m n) = ap (λ o. option_map (Conflict m) (option_and_then (blocking_behind store history set m) o)) is ∙ ap (option_map (Conflict m)) e in
        absurd cc
