-- A first set has seen its mounts, nothing blocks it, the history has room for it, and it makes no file too large.
use Rattle.std.proofs.Common.{◌≡◌, ℕ, ◌≤◌, Bool, true, false, cond, nat_lt, List, [], ◌∷◌, ◌++◌, zero, suc, slice_get, Option, Some, None, refl, sym, ap, ◌∙◌, inl, inr, arith, ltb-false, ltb-true}
use Rattle.std.specs.FinMap as map
use Rattle.std.specs.FinMap.{find}
use Rattle.std.specs.Option.{option_and_then, option_map, unwrap_or}
use Rattle.std.proofs.lemmas.List.Sums.{sum_by-cons}
use Rattle.general_words.specs.Saturated.{saturated}
use Rattle.general_words.proofs.Lists.{some_is}
use Rattle.general_words.proofs.Tests.{cond_nothing, cond_off}
use Rattle.model_names.specs.Name.{Name}
use Rattle.model_names.specs.Order.{name_cmp}
use Rattle.model_maps.specs.Entry.{Entry}
use Rattle.model_maps.specs.KeyMap.{KeyMap, no_keys, weight, heaviest_map}
use Rattle.model_history.specs.Changes.{after}
use Rattle.model_history.specs.History.{Commit, first_after, is_among, history_weight, heaviest_history, weight_of_commit}
use Rattle.mount_table.specs.declared.mounts.Mount.{Mount}
use Rattle.model_specified.specs.declared.violations.Violation.{Violation}
use Rattle.model_store.specs.First.{first_record, first_set}
use Rattle.model_store.specs.Fitting.{Early, Fits, NotFetched}
use Rattle.model_store.specs.Records.{Fetched}
use Rattle.model_store.specs.Sets.{Prepared, only, wants, kept, differs}
use Rattle.model_store.specs.Store.{Store, Formats, contents, counts_keys, points_of}
use Rattle.model_store.specs.Verdicts.{Late, Same, Conflict, TooLarge, Invalid, DatabaseFull, HistoryFull, Commits, Follows, Checks, IsEarly, IsLate, if_unseen, not_fetched, conflict_at, conflict, commit_of, first_same, if_untouched, if_heavy, if_full, oversize, too_large, too_large_at, too_large_file}
use Rattle.model_store.proofs.Fitted.{fits_small}
use Rattle.model_store.proofs.Judged.{has_passed}
use Rattle.model_store.proofs.Members.{among-filter, nothing_of}
use Rattle.model_store.proofs.Owners.{get-mine, get-other}
use Rattle.model_store.proofs.Touched.{AreOwned, change-differs, touched-after}
use Rattle.model_store.proofs.Unseen.{never_unseen}
use Rattle.model_store.proofs.VerdictLemmas.{is_conflict, not_large, not_limited, not_same}
use Rattle.model_store.proofs.Weights.{changes_light}
use Rattle.set_split.specs.Involved.{involved_in, owns}
use Rattle.set_split.specs.Parts.{owned_by}

-- ---- what the history decides

nothing_after : (m front : ℕ) → first_after [] m front ≡ None
nothing_after m zero = refl
nothing_after m (suc front) = refl

nothing_same : (points : List Name) (set : Prepared) (m front : ℕ) → first_same points [] set m front ≡ None
nothing_same points set m zero = refl
nothing_same points set m (suc front) = refl

-- no commit, no conflict
pub free-first : (store : Store) (set : Prepared) → conflict store [] set ≡ None
free-first store set =
    nothing_of (conflict_at store [] set) set.touched (λ m among. by m (counts_keys store m) (set.fronts m))
  where
    by : (m : ℕ) (own : Bool) (o : Option ℕ)
        → option_map (Conflict m) (option_and_then (λ front. cond own (first_same (points_of store) [] set m front) (first_after [] m front)) o)
        ≡ None
    by m own None = refl
    by m false (Some front) = ap (option_map (Conflict m)) (nothing_after m front)
    by m true (Some front) = ap (option_map (Conflict m)) (nothing_same (points_of store) set m front)

-- an answer that no step tells is none
told_off : (bad : Late → Bool) (o : Option Late) (late : Late) (P : Type 0)
    → ((told : Late) → o ≡ Some told → bad told ≡ false) → (o ≡ None → P → bad late ≡ false) → Follows o (Some late) P
    → bad late ≡ false
told_off bad None late P off behind p = behind refl p
told_off bad (Some told) late P off behind p = ap bad (some_is late told p) ∙ off told refl

checked_off : (bad : Late → Bool) (points : List Name) (keys : KeyMap) (set : Prepared) (late : Late) (P : Type 0)
    → ((violation : Violation) (risen : Bool) → bad (Invalid violation risen) ≡ false) → (P → bad late ≡ false)
    → Checks points keys set late P → bad late ≡ false
checked_off bad points keys set late P off behind (inl breaks) = ap bad breaks.is ∙ off breaks.violation breaks.risen
checked_off bad points keys set late P off behind (inr kept) = behind kept.1

abbrev is_full : Late → Bool
is_full (Same aside) = false
is_full (Conflict m by) = false
is_full (TooLarge m size) = false
is_full (Invalid violation risen) = false
is_full (DatabaseFull n) = false
is_full (HistoryFull n) = true
is_full (Commits commit aside) = false

abbrev is_large : Late → Bool
is_large (Same aside) = false
is_large (Conflict m by) = false
is_large (TooLarge m size) = true
is_large (Invalid violation risen) = false
is_large (DatabaseFull n) = false
is_large (HistoryFull n) = false
is_large (Commits commit aside) = false

module _ (formats : Formats) (store : Store) (history : List Commit) (start : KeyMap) (set : Prepared) (free : conflict store history set ≡ None) where
  abbrev w : ℕ
  w = weight (after start set.changes)

  abbrev h : ℕ
  h = history_weight (history ++ commit_of set ∷ [])

  no_conflict : (told : Late) (bad : Late → Bool) → conflict store history set ≡ Some told → bad told ≡ false
  no_conflict told bad is = let both : None ≡ Some told = sym free ∙ is in absurd cc

  -- a set that is too large for a file is told as nothing else
  large_off : (told : Late) (bad : Late → Bool) → ((m size : ℕ) → bad (TooLarge m size) ≡ false)
      → too_large formats store start set ≡ Some told → bad told ≡ false
  large_off told bad off e = not_large bad formats store (after start set.changes) set.touched told off e

  -- a verdict is of no kind of which no step tells one
  not_kind : (bad : Late → Bool) → ((aside : ℕ) → bad (Same aside) ≡ false)
      → ((told : Late) → too_large formats store start set ≡ Some told → bad told ≡ false)
      → ((violation : Violation) (risen : Bool) → bad (Invalid violation risen) ≡ false)
      → bad (DatabaseFull (saturated w)) ≡ false
      → (if_heavy w ≡ None → (told : Late) → if_full h ≡ Some told → bad told ≡ false)
      → bad (Commits (commit_of set) set.aside) ≡ false
      → (late : Late) → IsLate formats store history start set late → bad late ≡ false
  not_kind bad same large invalid heavy full commits late is =
      told_off bad (if_untouched set.touched set.aside) late _ (λ told e. not_same bad set.touched set.aside told (same set.aside) e)
      (λ _ p. told_off bad (conflict store history set) late _ (λ told e. no_conflict told bad e)
      (λ _ l. told_off bad (too_large formats store start set) late _ large
      (λ _ c. checked_off bad (points_of store) start set late _ invalid
      (λ q. told_off bad (if_heavy w) late _ (λ told e. not_limited bad (nat_lt heaviest_map w) (DatabaseFull (saturated w)) told heavy e)
      (λ light r. told_off bad (if_full h) late _ (full light)
      (λ _ s. ap bad s ∙ commits) r) q) c) l) p) is

  full_is : (bad : Late → Bool) → bad (HistoryFull (saturated h)) ≡ false → (told : Late) → if_full h ≡ Some told
      → bad told ≡ false
  full_is bad off told e = not_limited bad (nat_lt heaviest_history h) (HistoryFull (saturated h)) told off e

  never_blocked : (late : Late) → IsLate formats store history start set late → is_conflict late ≡ false
  never_blocked =
      not_kind is_conflict (λ aside. refl) (λ told e. large_off told is_conflict (λ m size. refl) e) (λ violation risen. refl) refl (λ light told e. full_is is_conflict refl told e) refl

  never_large : too_large formats store start set ≡ None → (late : Late) → IsLate formats store history start set late
      → is_large late ≡ false
  never_large small =
      not_kind is_large (λ aside. refl) (λ told e. let both : None ≡ Some told = sym small ∙ e in absurd cc) (λ violation risen. refl) refl (λ light told e. full_is is_large refl told e) refl

  never_full : (w ≤ heaviest_map → h ≤ heaviest_history) → (late : Late) → IsLate formats store history start set late
      → is_full late ≡ false
  never_full room =
      not_kind is_full (λ aside. refl) (λ told e. large_off told is_full (λ m size. refl) e) (λ violation risen. refl) refl
      (λ light told e. absurd (full_off told (room (ltb-false heaviest_map w (cond_off _ (DatabaseFull (saturated w)) light))) e)) refl
    where
      full_off : (told : Late) → h ≤ heaviest_history → if_full h ≡ Some told → ⊥
      full_off told le e = by (nat_lt heaviest_history h) refl e
        where
          by : (b : Bool) → nat_lt heaviest_history h ≡ b → cond b (Some (HistoryFull (saturated h))) None ≡ Some told
              → ⊥
          by true is some = omega (arith, le, ltb-true heaviest_history h is)
          by false is some = absurd cc

-- ---- the set of a first get

module _ (store : Store) (handle : ℕ) (parent : Name) (keys : KeyMap) where
  abbrev points : List Name
  points = points_of store

  abbrev involved : List ℕ
  involved = involved_in points parent

  abbrev set : Prepared
  set = first_set store handle parent keys

  abbrev before : ℕ → KeyMap
  before = kept (only involved (first_record store parent))

  abbrev wanted_of : ℕ → KeyMap
  wanted_of = wants points keys

  abbrev seen_of : ℕ → Fetched
  seen_of m = record { front = 0; kept = owned_by points m store.start }

  -- an involved mount was seen before any commit
  front-first : (m : ℕ) → is_among involved m ≡ true → set.fronts m ≡ Some 0
  front-first m among =
      ap (λ b. option_map (λ (f : Fetched). f.front) (cond b (cond b (Some (seen_of m)) None) None)) among

  pub fetched-first : not_fetched set ≡ None
  fetched-first =
      nothing_of (λ m. if_unseen m (set.fronts m)) involved (λ m among. ap (if_unseen m) (front-first m among))

  owned : AreOwned points before wanted_of
  owned = record { nothing_before = none; nothing_wanted = λ m q off. get-other points m keys q off }
    where
      none : (m : ℕ) (q : Name) → owns points m q ≡ false → map.get (before m) q ≡ None
      none m q off = elim (is_among involved m) as (λ b. map.get (unwrap_or (option_map (λ (f : Fetched). f.kept) (cond b (cond b (Some (seen_of m)) None) None)) no_keys) q ≡ None) [
        | true ↦ get-other points m store.start q off
        | false ↦ map.get-empty name_cmp q
      ]

  as_kept : (m : ℕ) → is_among set.touched m ≡ true → owned_by points m store.start ≡ before m
  as_kept m among =
      let reached = (among-filter (differs before wanted_of) involved m among).0 in
      sym (ap (λ b. unwrap_or (option_map (λ (f : Fetched). f.kept) (cond b (cond b (Some (seen_of m)) None) None)) no_keys) reached)

  name_kept : (m : ℕ) (q : Name) (new : Option Entry) → is_among set.touched m ≡ true → owns points m q ≡ true
      → find name_cmp q (map.entries set.changes) ≡ Some new → map.get store.start q ≡ map.get (before m) q
  name_kept m q new among mine found =
      sym (get-mine points m store.start q mine) ∙ ap (λ k. map.get k q) (as_kept m among)

  -- the map after the set has of a touched mount what is wanted
  stored : (m : ℕ) → is_among set.touched m ≡ true → owned_by points m (after store.start set.changes) ≡ wanted_of m
  stored m among = touched-after points before wanted_of owned store.start set.touched m among (as_kept m among)

  -- so a file that takes this isn't too large
  small_at : (formats : Formats) (m : ℕ) → is_among set.touched m ≡ true → Fits formats store wanted_of m
      → too_large_at formats store (after store.start set.changes) m ≡ None
  small_at formats m among fits = by (slice_get store.mounts m) refl
    where
      by : (o : Option Mount) → slice_get store.mounts m ≡ o
          → option_and_then (too_large_file formats store (after store.start set.changes) m) o ≡ None
      by None there = refl
      by (Some mount) there =
          let none : oversize formats mount (contents store m mount (wanted_of m)) ≡ None = fits_small formats store wanted_of m mount there fits in
          let same : oversize formats mount (contents store m mount (owned_by points m (after store.start set.changes))) ≡ None = ap (λ (k : KeyMap). oversize formats mount (contents store m mount k)) (stored m among) ∙ none in
          cond_nothing mount.by_key _ (ap (option_map (TooLarge m)) same)

  pub small-first : (formats : Formats) → IsEarly formats store set None
      → too_large formats store store.start set ≡ None
  small-first formats early =
      let passed = has_passed formats store set early in
      nothing_of (too_large_at formats store (after store.start set.changes)) set.touched (λ m among. small_at formats m among (passed.fits m among))

  -- where the first map and the map after the set are within their limit, so is the history
  pub room-first : weight store.start ≤ heaviest_map → weight (after store.start set.changes) ≤ heaviest_map
      → history_weight ([] ++ commit_of set ∷ []) ≤ heaviest_history
  room-first first_light light =
      let changes = changes_light store.start set.changes (λ q new found is. change-differs points before wanted_of owned store.start set.touched name_kept q new found is) in
      omega (arith, changes, first_light, light, sum_by-cons weight_of_commit (commit_of set) [])

module _ (formats : Formats) (store : Store) (handle : ℕ) (parent : Name) (keys : KeyMap) where
  pub never-unseen : (early : Option Early) (m : ℕ) → IsEarly formats store (first_set store handle parent keys) early
      → early ≡ Some (NotFetched m) → ⊥
  never-unseen early m is unseen =
      never_unseen formats store (first_set store handle parent keys) (fetched-first store handle parent keys) early m is unseen

  pub never-blocked : (late : Late) (m by : ℕ)
      → IsLate formats store [] store.start (first_set store handle parent keys) late → late ≡ Conflict m by → ⊥
  never-blocked late m by is blocked =
      let set = first_set store handle parent keys in
      let off : is_conflict late ≡ false = never_blocked formats store [] store.start set (free-first store set) late is in
      let on : is_conflict late ≡ true = ap is_conflict blocked in
      absurd cc

  pub never-full : weight store.start ≤ heaviest_map → (late : Late) (n : ℕ)
      → IsLate formats store [] store.start (first_set store handle parent keys) late → late ≡ HistoryFull n → ⊥
  never-full light late n is full =
      let set = first_set store handle parent keys in
      let off : is_full late ≡ false = never_full formats store [] store.start set (free-first store set) (room-first store handle parent keys light) late is in
      let on : is_full late ≡ true = ap is_full full in
      absurd cc

  pub never-large : IsEarly formats store (first_set store handle parent keys) None → (late : Late) (m size : ℕ)
      → IsLate formats store [] store.start (first_set store handle parent keys) late → late ≡ TooLarge m size → ⊥
  never-large early late m size is large =
      let set = first_set store handle parent keys in
      let off : is_large late ≡ false = never_large formats store [] store.start set (free-first store set) (small-first store handle parent keys formats early) late is in
      let on : is_large late ≡ true = ap is_large large in
      absurd cc
