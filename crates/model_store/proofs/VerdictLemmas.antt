-- What a verdict tells of its set, step by step: each step of the history tells verdicts of its own kind.
use Rattle.std.proofs.Common.{◌≡◌, ◌≢◌, ℕ, nat_lt, Bool, true, false, cond, List, [], ◌∷◌, ◌++◌, slice_get, Option, Some, None, refl, sym, ap, subst, ◌∙◌, inl, inr}
use Rattle.std.specs.Option.{option_and_then, option_map, option_or}
use Rattle.general_words.specs.Saturated.{saturated}
use Rattle.general_words.specs.Searches.{first_some}
use Rattle.general_words.proofs.Lists.{some_is}
use Rattle.model_maps.specs.KeyMap.{KeyMap, weight, heaviest_map}
use Rattle.model_history.specs.Changes.{after}
use Rattle.model_history.specs.History.{Commit, is_among, history_weight, heaviest_history}
use Rattle.model_names.specs.Name.{Name}
use Rattle.model_specified.specs.declared.violations.Violation.{Violation}
use Rattle.mount_table.specs.declared.mounts.Mount.{Mount}
use Rattle.model_store.specs.Rules.{KeepRules}
use Rattle.model_store.specs.Sets.{Prepared}
use Rattle.model_store.specs.Store.{Store, Formats, contents, points_of}
use Rattle.model_store.specs.Verdicts.{Late, Same, Conflict, TooLarge, Invalid, DatabaseFull, HistoryFull, Commits, Follows, Checks, IsLate, blocking, conflict_at, conflict, commit_of, if_untouched, if_heavy, if_full, oversize, too_large_at, too_large_file, too_large}
use Rattle.model_store.proofs.Members.{among-first, among-rest}
use Rattle.set_split.specs.Parts.{owned_by}

-- ---- one step

-- where no step tells an answer, the rest holds of it
pub skipped : {A : Type 0} (o : Option A) (answer : A) (P : Type 0) → (o ≡ Some answer → ⊥) → Follows o (Some answer) P
    → (o ≡ None) × P
skipped None answer P off h = (refl, h)
skipped (Some one) answer P off h = absurd (off (sym h))

-- an answer of which the rest can't hold is told by the step
pub told : {A : Type 0} (o : Option A) (answer : A) (P : Type 0) → (P → ⊥) → Follows o (Some answer) P → o ≡ Some answer
told None answer P off h = absurd (off h)
told (Some one) answer P off h = sym h

-- where the rules tell no answer, they are kept and the rest holds of it
pub unruled : (points : List Name) (keys : KeyMap) (set : Prepared) (answer : Late) (P : Type 0)
    → ((violation : Violation) (risen : Bool) → answer ≡ Invalid violation risen → ⊥) → Checks points keys set answer P
    → KeepRules points set.touched (after keys set.changes) × P
unruled points keys set answer P off (inl breaks) = absurd (off breaks.violation breaks.risen breaks.is)
unruled points keys set answer P off (inr kept) = (kept.0, kept.1)

-- where the first step tells nothing, some mount is touched
pub some_touched : (touched : List ℕ) (aside : ℕ) → if_untouched touched aside ≡ None → touched ≢ []
some_touched [] aside none = absurd cc
some_touched (m ∷ touched) aside none = λ e. absurd cc

-- ---- what a step doesn't tell

-- a verdict that a step tells is of none of the other kinds
module _ (is_kind : Late → Bool) where
  pub not_same : (touched : List ℕ) (aside : ℕ) (late : Late) → is_kind (Same aside) ≡ false
      → if_untouched touched aside ≡ Some late → is_kind late ≡ false
  not_same [] aside late off e = ap is_kind (sym (some_is (Same aside) late e)) ∙ off
  not_same (m ∷ touched) aside late off e = absurd cc

  pub not_conflict : (store : Store) (history : List Commit) (set : Prepared) (ms : List ℕ) (late : Late)
      → ((m by : ℕ) → is_kind (Conflict m by) ≡ false) → first_some (conflict_at store history set) ms ≡ Some late
      → is_kind late ≡ false
  not_conflict store history set [] late off e = absurd cc
  not_conflict store history set (m ∷ ms) late off e = elim (blocking store history set m) as (λ (o : Option ℕ). option_or (option_map (Conflict m) o) (first_some (conflict_at store history set) ms) ≡ Some late → is_kind late ≡ false) [
    | None ↦ λ h. not_conflict store history set ms late off h
    | Some by ↦ λ h. ap is_kind (sym (some_is (Conflict m by) late h)) ∙ off m by
  ] e

  pub not_large : (formats : Formats) (store : Store) (keys : KeyMap) (ms : List ℕ) (late : Late)
      → ((m size : ℕ) → is_kind (TooLarge m size) ≡ false) → first_some (too_large_at formats store keys) ms ≡ Some late
      → is_kind late ≡ false
  not_large formats store keys [] late off e = absurd cc
  not_large formats store keys (m ∷ ms) late off e =
      by (too_large_at formats store keys m) refl (not_large formats store keys ms late off) e
    where
      -- what is told of a mount is that it is too large
      of_file : (mount : Mount) (b : Bool) (o : Option ℕ) → cond b (option_map (TooLarge m) o) None ≡ Some late
          → is_kind late ≡ false
      of_file mount true None h = absurd cc
      of_file mount true (Some size) h = ap is_kind (sym (some_is (TooLarge m size) late h)) ∙ off m size
      of_file mount false o h = absurd cc

      of_mount : (o : Option Mount) → option_and_then (too_large_file formats store keys m) o ≡ Some late
          → is_kind late ≡ false
      of_mount None h = absurd cc
      of_mount (Some mount) h =
          of_file mount mount.by_key (oversize formats mount (contents store m mount (owned_by (points_of store) m keys))) h

      by : (o : Option Late) → too_large_at formats store keys m ≡ o
          → (first_some (too_large_at formats store keys) ms ≡ Some late → is_kind late ≡ false)
          → option_or o (first_some (too_large_at formats store keys) ms) ≡ Some late → is_kind late ≡ false
      by None is rest h = rest h
      by (Some one) is rest h = of_mount (slice_get store.mounts m) (is ∙ h)

  pub not_limited : (b : Bool) (one late : Late) → is_kind one ≡ false → cond b (Some one) None ≡ Some late
      → is_kind late ≡ false
  not_limited true one late off e = ap is_kind (sym (some_is one late e)) ∙ off
  not_limited false one late off e = absurd cc

-- ---- a conflict

abbrev pub is_conflict : Late → Bool
is_conflict (Same aside) = false
is_conflict (Conflict m by) = true
is_conflict (TooLarge m size) = false
is_conflict (Invalid violation risen) = false
is_conflict (DatabaseFull n) = false
is_conflict (HistoryFull n) = false
is_conflict (Commits commit aside) = false

module _ (m by : ℕ) where
  conflict_among : (store : Store) (history : List Commit) (set : Prepared) (ms : List ℕ)
      → first_some (conflict_at store history set) ms ≡ Some (Conflict m by) → is_among ms m ≡ true
  conflict_among store history set [] e = absurd cc
  conflict_among store history set (n ∷ ms) e = elim (blocking store history set n) as (λ (o : Option ℕ). option_or (option_map (Conflict n) o) (first_some (conflict_at store history set) ms) ≡ Some (Conflict m by) → is_among (n ∷ ms) m ≡ true) [
    | None ↦ λ h. among-rest n m ms (conflict_among store history set ms h)
    | Some k ↦ λ h. subst (λ j. is_among (n ∷ ms) j ≡ true) (same n k h) (among-first n ms)
  ] e
    where
      same : (n k : ℕ) → Some (Conflict n k) ≡ Some (Conflict m by) → n ≡ m
      same n k h = cc

  -- a conflict is what the history tells of the set
  pub is_blocked : (formats : Formats) (store : Store) (history : List Commit) (keys : KeyMap) (set : Prepared)
      → IsLate formats store history keys set (Conflict m by) → conflict store history set ≡ Some (Conflict m by)
  is_blocked formats store history keys set late =
      let is : Late = Conflict m by in
      let w : ℕ = weight (after keys set.changes) in
      let h : ℕ = history_weight (history ++ commit_of set ∷ []) in
      let touched = skipped (if_untouched set.touched set.aside) is _ (λ e. let off : is_conflict is ≡ false = not_same is_conflict set.touched set.aside is refl e in absurd cc) late in
      told (conflict store history set) is _ (λ rest.
      let small = skipped (too_large formats store keys set) is _ (λ e. let off : is_conflict is ≡ false = not_large is_conflict formats store (after keys set.changes) set.touched is (λ n size. refl) e in absurd cc) rest in
      let valid = unruled (points_of store) keys set is _ (λ violation risen e. let off : is_conflict is ≡ false = ap is_conflict e in absurd cc) small.1 in
      let light = skipped (if_heavy w) is _ (λ e. let off : is_conflict is ≡ false = not_limited is_conflict (nat_lt heaviest_map w) (DatabaseFull (saturated w)) is refl e in absurd cc) valid.1 in
      let full = skipped (if_full h) is _ (λ e. let off : is_conflict is ≡ false = not_limited is_conflict (nat_lt heaviest_history h) (HistoryFull (saturated h)) is refl e in absurd cc) light.1 in
      let off : is_conflict is ≡ false = ap is_conflict full.1 in
      absurd cc) touched.1

  -- its mount is touched
  pub conflict_touched : (formats : Formats) (store : Store) (history : List Commit) (keys : KeyMap) (set : Prepared)
      → IsLate formats store history keys set (Conflict m by) → is_among set.touched m ≡ true
  conflict_touched formats store history keys set late =
      conflict_among store history set set.touched (is_blocked formats store history keys set late)

-- ---- too large a file

abbrev pub is_large : Late → Bool
is_large (Same aside) = false
is_large (Conflict m by) = false
is_large (TooLarge m size) = true
is_large (Invalid violation risen) = false
is_large (DatabaseFull n) = false
is_large (HistoryFull n) = false
is_large (Commits commit aside) = false

module _ (m size : ℕ) where
  large_among : (formats : Formats) (store : Store) (keys : KeyMap) (ms : List ℕ)
      → first_some (too_large_at formats store keys) ms ≡ Some (TooLarge m size) → is_among ms m ≡ true
  large_among formats store keys [] e = absurd cc
  large_among formats store keys (n ∷ ms) e =
      by (too_large_at formats store keys n) refl e (large_among formats store keys ms)
    where
      of_file : (b : Bool) (o : Option ℕ) → cond b (option_map (TooLarge n) o) None ≡ Some (TooLarge m size) → n ≡ m
      of_file true None h = absurd cc
      of_file true (Some k) h = cc
      of_file false o h = absurd cc

      of_mount : (o : Option Mount) → option_and_then (too_large_file formats store keys n) o ≡ Some (TooLarge m size)
          → n ≡ m
      of_mount None h = absurd cc
      of_mount (Some mount) h =
          of_file mount.by_key (oversize formats mount (contents store n mount (owned_by (points_of store) n keys))) h

      by : (o : Option Late) → too_large_at formats store keys n ≡ o
          → option_or o (first_some (too_large_at formats store keys) ms) ≡ Some (TooLarge m size)
          → (first_some (too_large_at formats store keys) ms ≡ Some (TooLarge m size) → is_among ms m ≡ true)
          → is_among (n ∷ ms) m ≡ true
      by None is h rest = among-rest n m ms (rest h)
      by (Some told) is h rest =
          subst (λ j. is_among (n ∷ ms) j ≡ true) (of_mount (slice_get store.mounts n) (is ∙ h)) (among-first n ms)

  -- too large a file is what is told of the set, which nothing blocks
  pub is_too_large : (formats : Formats) (store : Store) (history : List Commit) (keys : KeyMap) (set : Prepared)
      → IsLate formats store history keys set (TooLarge m size)
      → too_large formats store keys set ≡ Some (TooLarge m size)
  is_too_large formats store history keys set late =
      let is : Late = TooLarge m size in
      let w : ℕ = weight (after keys set.changes) in
      let h : ℕ = history_weight (history ++ commit_of set ∷ []) in
      let touched = skipped (if_untouched set.touched set.aside) is _ (λ e. let off : is_large is ≡ false = not_same is_large set.touched set.aside is refl e in absurd cc) late in
      let free = skipped (conflict store history set) is _ (λ e. let off : is_large is ≡ false = not_conflict is_large store history set set.touched is (λ n by. refl) e in absurd cc) touched.1 in
      told (too_large formats store keys set) is _ (λ rest.
      let valid = unruled (points_of store) keys set is _ (λ violation risen e. let off : is_large is ≡ false = ap is_large e in absurd cc) rest in
      let light = skipped (if_heavy w) is _ (λ e. let off : is_large is ≡ false = not_limited is_large (nat_lt heaviest_map w) (DatabaseFull (saturated w)) is refl e in absurd cc) valid.1 in
      let full = skipped (if_full h) is _ (λ e. let off : is_large is ≡ false = not_limited is_large (nat_lt heaviest_history h) (HistoryFull (saturated h)) is refl e in absurd cc) light.1 in
      let off : is_large is ≡ false = ap is_large full.1 in
      absurd cc) free.1

  -- its mount is touched
  pub large_touched : (formats : Formats) (store : Store) (history : List Commit) (keys : KeyMap) (set : Prepared)
      → IsLate formats store history keys set (TooLarge m size) → is_among set.touched m ≡ true
  large_touched formats store history keys set late =
      large_among formats store (after keys set.changes) set.touched (is_too_large formats store history keys set late)
