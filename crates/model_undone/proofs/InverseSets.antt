-- What the set that undoes a commit changes, name by name, and what the verdict tells of it.
use Rattle.std.proofs.Common.{◌≡◌, ◌≢◌, ℕ, ◌+◌, ◌-◌, nat_eq, nat_lt, Bool, true, false, T, cond, not, ◌&&◌, ◌||◌, is_some, List, [], ◌∷◌, ◌++◌, drop, filter, length, take, map as over, Option, Some, None, refl, sym, ap, ap₂, ◌∙◌, eqb-true, arith}
use Rattle.std.specs.FinMap as map
use Rattle.std.specs.FinMap.{find, is_sorted}
use Rattle.std.specs.FinMap.Entries.{below_all}
use Rattle.std.specs.List.{AllByRecursion, position_from}
use Rattle.std.specs.Option.{option_and_then, option_map, unwrap_or}
use Rattle.std.specs.Ordering.{eq_by_cmp, is_lt}
use Rattle.std.proofs.lemmas.Bool.{or_right}
use Rattle.std.proofs.lemmas.List.{drop_all}
use Rattle.general_words.specs.Saturated.{saturated}
use Rattle.general_words.proofs.Lists.{take-next}
use Rattle.general_words.proofs.Orders.{tied}
use Rattle.general_words.proofs.Tests.{true_is}
use Rattle.key_set.specs.Same.{same_keys}
use Rattle.key_set.proofs.SameLemmas.{keys_decides}
use Rattle.model_names.specs.Name.{Name}
use Rattle.model_names.specs.Order.{name_cmp}
use Rattle.model_names.proofs.OrderLemmas.{name_cmp_total, name_cmp-IsAntisymmetric}
use Rattle.model_maps.specs.Entry.{Entry}
use Rattle.model_maps.specs.KeyMap.{KeyMap, no_keys, weight, heaviest_map}
use Rattle.model_history.specs.Changes.{Change, after, change_at, changed_by}
use Rattle.model_history.specs.History.{Commit, first_after, heaviest_history, history_weight, is_among, replay, touches}
use Rattle.model_history.proofs.ChangeLemmas.{change_at-none, change_at-same, change_at-to, get-changed_by}
use Rattle.model_history.proofs.HistoryLemmas.{replay-append}
use Rattle.model_store.specs.Fitting.{NotFetched}
use Rattle.model_store.specs.Legal.{HasChange}
use Rattle.model_store.specs.Records.{Fetched, Record}
use Rattle.model_store.specs.Sets.{Prepared, differs, kept, only, wants}
use Rattle.model_store.specs.Store.{Store, Formats, counts_keys, points_of}
use Rattle.model_store.specs.Verdicts.{Late, Same, Conflict, TooLarge, Invalid, DatabaseFull, HistoryFull, Commits, IsEarly, IsLate, blocking_behind, changes_same, commit_of, conflict, conflict_at, first_same, if_full, if_heavy, if_unseen, if_untouched, not_fetched, too_large}
use Rattle.model_store.proofs.Members.{among-filter, nothing_of}
use Rattle.model_store.proofs.Owners.{IsOwner, get-mine, get-other, owner_among}
use Rattle.model_store.proofs.Touched.{AreOwned, changed-at, get-changes}
use Rattle.model_store.proofs.Unseen.{never_unseen}
use Rattle.model_store.proofs.VerdictLemmas.{is_blocked, not_conflict, not_large, not_limited, skipped, told, unruled}
use Rattle.model_undo.specs.Undoing.{changes_made, commit_at, inverse, is_changed, turned_back}
use Rattle.model_undo.proofs.UndoLemmas.{get-turned_back, made-there, stands-at, stands-still}
use Rattle.model_undone.specs.UndoSets.{CanUndo, record_got, taken_back, undo_set}
use Rattle.set_split.specs.Involved.{involved_in, owns}
use Rattle.set_split.specs.Parts.{owned_by}

-- ---- searches among numbers

-- what is among all and passes is among those that pass
pub into-filter : (p : ℕ → Bool) (ms : List ℕ) (m : ℕ) → is_among ms m ≡ true → p m ≡ true
    → is_among (filter p ms) m ≡ true
into-filter p [] m among passes = absurd cc
into-filter p (n ∷ ms) m among passes = by (into-filter p ms m) (nat_eq m n) refl (p n) refl among
  where
    by : (is_among ms m ≡ true → p m ≡ true → is_among (filter p ms) m ≡ true) → (t : Bool) → nat_eq m n ≡ t
        → (b : Bool) → p n ≡ b → (t || is_among ms m) ≡ true
        → is_among (cond b (n ∷ filter p ms) (filter p ms)) m ≡ true
    by rest true is true here h = ap (λ t. t || is_among (filter p ms) m) is
    by rest true is false here h = let same : p m ≡ false = ap p (eqb-true m n is) ∙ here in absurd cc
    by rest false is true here h = or_right (nat_eq m n) (is_among (filter p ms) m) (rest h passes)
    by rest false is false here h = rest h passes

-- ---- changes turned back

-- they stand in the same order
below-turned : (before : KeyMap) (x : Name) (changes : List Change)
    → below_all name_cmp x (over (turned_back before) changes) ≡ below_all name_cmp x changes
below-turned before x [] = refl
below-turned before x (change ∷ changes) = ap (λ t. is_lt (name_cmp x change.0) && t) (below-turned before x changes)

sorted-turned : (before : KeyMap) (changes : List Change)
    → is_sorted name_cmp (over (turned_back before) changes) ≡ is_sorted name_cmp changes
sorted-turned before [] = refl
sorted-turned before (change ∷ changes) =
    ap₂ (λ s t. s && t) (below-turned before change.0 changes) (sorted-turned before changes)

-- what one of them gives
find-turned : (before : KeyMap) (changes : List Change) (q : Name)
    → find name_cmp q (over (turned_back before) changes) ≡ option_map (λ _. map.get before q) (find name_cmp q changes)
find-turned before [] q = refl
find-turned before (change ∷ changes) q = by (find-turned before changes q) (eq_by_cmp name_cmp q change.0) refl
  where
    by : find name_cmp q (over (turned_back before) changes)
        ≡ option_map (λ _. map.get before q) (find name_cmp q changes)
        → (t : Bool) → eq_by_cmp name_cmp q change.0 ≡ t
        → cond t (Some (map.get before change.0)) (find name_cmp q (over (turned_back before) changes))
        ≡ option_map (λ _. map.get before q) (cond t (Some change.1) (find name_cmp q changes))
    by rest true is =
        let same : change.0 ≡ q = sym (name_cmp-IsAntisymmetric q change.0 (tied _ is)) in ap (λ n. Some (map.get before n)) same
    by rest false is = rest

-- ---- the commit of a number

-- the map right behind it
up-to : (start : KeyMap) (history : List Commit) (number : ℕ) (commit : Commit) → commit_at history number ≡ Some commit
    → replay start (take number history) ≡ changed_by commit.changes (replay start (take (number - 1) history))
up-to start history number commit there =
    let at = stands-at history number commit there in
    let place : number - 1 + 1 ≡ number = omega (arith, at.0) in
    ap (λ n. replay start (take n history)) (sym place)
    ∙ ap (replay start) (take-next history (number - 1) commit (sym at.1))
    ∙ replay-append start (take (number - 1) history) (commit ∷ [])

-- ---- the set

module _ (formats : Formats) (store : Store) (history : List Commit) (handle : ℕ) (parent : Name) (rec : Record) (keys : KeyMap) (number : ℕ) (can : CanUndo formats store history parent keys number) where
  abbrev points : List Name
  points = points_of store

  abbrev involved : List ℕ
  involved = involved_in points parent

  abbrev present : KeyMap
  present = replay store.start history

  abbrev earlier : KeyMap
  earlier = replay store.start (take (number - 1) history)

  abbrev changes : List Change
  changes = can.commit.changes

  abbrev made_keys : KeyMap
  made_keys = taken_back store history number keys

  abbrev before : ℕ → KeyMap
  before = kept (only involved (record_got store history parent rec))

  abbrev wanted : ℕ → KeyMap
  wanted = wants points made_keys

  abbrev set : Prepared
  set = undo_set store history handle parent rec keys number

  abbrev seen_of : ℕ → Fetched
  seen_of m = record { front = length history; kept = owned_by points m present }

  -- what the record keeps of an involved mount, and its front
  had : (m : ℕ) → is_among involved m ≡ true → before m ≡ owned_by points m present
  had m among =
      ap (λ b. unwrap_or (option_map (λ (f : Fetched). f.kept) (cond b (cond b (Some (seen_of m)) (rec.fetched m)) None)) no_keys) among

  front-is : (m : ℕ) → is_among involved m ≡ true → set.fronts m ≡ Some (length history)
  front-is m among =
      ap (λ b. option_map (λ (f : Fetched). f.front) (cond b (cond b (Some (seen_of m)) (rec.fetched m)) None)) among

  owned : AreOwned points before wanted
  owned = record { nothing_before = none; nothing_wanted = λ m q off. get-other points m made_keys q off }
    where
      none : (m : ℕ) (q : Name) → owns points m q ≡ false → map.get (before m) q ≡ None
      none m q off = elim (is_among involved m) as (λ b. map.get (unwrap_or (option_map (λ (f : Fetched). f.kept) (cond b (cond b (Some (seen_of m)) (rec.fetched m)) None)) no_keys) q ≡ None) [
        | true ↦ get-other points m present q off
        | false ↦ map.get-empty name_cmp q
      ]

  made : changes_made history number ≡ changes
  made = made-there history number can.commit can.stands

  changed-is : (q : Name) (o : Option (Option Entry)) → find name_cmp q changes ≡ o
      → is_changed (changes_made history number) q ≡ is_some o
  changed-is q o found = ap (λ (cs : List Change). is_some (find name_cmp q cs)) made ∙ ap is_some found

  -- the present map has at a name of the commit what that gave
  present-at : (q : Name) (new : Option Entry) → find name_cmp q changes ≡ Some new → map.get present q ≡ new
  present-at q new found =
      stands-still store.start history number q can.latest (changed-is q (Some new) found)
      ∙ ap (λ k. map.get k q) (up-to store.start history number can.commit can.stands)
      ∙ get-changed_by changes earlier q (true_is _ can.legal.names)
      ∙ ap (λ o. unwrap_or o (map.get earlier q)) found

  -- what is wanted at a name
  wanted-at : (m : ℕ) (q : Name) → owns points m q ≡ true → (o : Option (Option Entry)) → find name_cmp q changes ≡ o
      → map.get (wanted m) q ≡ cond (is_some o) (map.get earlier q) (map.get keys q)
  wanted-at m q mine o found =
      get-mine points m made_keys q mine
      ∙ get-turned_back earlier (changes_made history number) keys q
      ∙ ap (λ b. cond b (map.get earlier q) (map.get keys q)) (changed-is q o found)

  -- ---- at a name of the commit

  module _ (q : Name) (new : Option Entry) (found : find name_cmp q changes ≡ Some new) where
    owner : IsOwner points can.commit.touched q
    owner = owner_among points can.commit.touched q (can.legal.owned q new found)

    here : is_among involved owner.mount ≡ true
    here = can.reached owner.mount owner.among

    had-here : map.get (before owner.mount) q ≡ new
    had-here =
        ap (λ k. map.get k q) (had owner.mount here) ∙ get-mine points owner.mount present q owner.owned
        ∙ present-at q new found

    wanted-here : map.get (wanted owner.mount) q ≡ map.get earlier q
    wanted-here = wanted-at owner.mount q owner.owned (Some new) found

    apart : map.get (before owner.mount) q ≡ map.get (wanted owner.mount) q → ⊥
    apart same = can.legal.differs q new found (sym had-here ∙ same ∙ wanted-here)

    change-here : change_at (before owner.mount) (wanted owner.mount) q ≡ Some (map.get earlier q)
    change-here = by (change_at (before owner.mount) (wanted owner.mount) q) refl
      where
        by : (o : Option (Option Entry)) → change_at (before owner.mount) (wanted owner.mount) q ≡ o
            → change_at (before owner.mount) (wanted owner.mount) q ≡ Some (map.get earlier q)
        by None is = absurd (apart (change_at-none (before owner.mount) (wanted owner.mount) q is))
        by (Some w) is = is ∙ ap Some (change_at-to (before owner.mount) (wanted owner.mount) q w is ∙ wanted-here)

    touched-here : is_among set.touched owner.mount ≡ true
    touched-here =
        into-filter (differs before wanted) involved owner.mount here (by (same_keys (wanted owner.mount) (before owner.mount)) refl)
      where
        by : (t : Bool) → same_keys (wanted owner.mount) (before owner.mount) ≡ t → not t ≡ true
        by true is =
            absurd (apart (ap (λ k. map.get k q) (sym ((keys_decides (wanted owner.mount) (before owner.mount)).0 is))))
        by false is = refl

    changed-here : map.get set.changes q ≡ Some (map.get earlier q)
    changed-here =
        get-changes points before wanted owned set.touched owner.mount q owner.owned touched-here ∙ change-here

  -- ---- at any other name

  unchanged-here : (q : Name) → find name_cmp q changes ≡ None → map.get set.changes q ≡ None
  unchanged-here q none = by (map.get set.changes q) refl
    where
      by : (o : Option (Option Entry)) → map.get set.changes q ≡ o → map.get set.changes q ≡ None
      by None is = is
      by (Some w) is =
          let at = changed-at points before wanted owned set.touched q w (sym (map.get-entries set.changes q) ∙ is) in
          let among : is_among involved at.mount ≡ true = (among-filter (differs before wanted) involved at.mount at.among).0 in
          let same : map.get (before at.mount) q ≡ map.get (wanted at.mount) q =
          ap (λ k. map.get k q) (had at.mount among)
          ∙ ap (λ k. map.get k q) (sym (can.shown at.mount among))
          ∙ get-mine points at.mount keys q at.mine
          ∙ sym (wanted-at at.mount q at.mine None none) in
          let off : change_at (before at.mount) (wanted at.mount) q ≡ None = change_at-same (before at.mount) (wanted at.mount) q same in
          let on = at.is in
          absurd cc

  -- ---- the changes

  abbrev turned : List Change
  turned = over (turned_back earlier) changes

  pub changes-are : map.entries set.changes ≡ inverse store.start history number
  changes-are =
      ap map.entries (map.same_map name_cmp_total name_cmp-IsAntisymmetric set.changes (map.from_sorted turned) (λ q. at q (find name_cmp q changes) refl ∙ sym (find-turned earlier changes q) ∙ sym (map.get-from_sorted name_cmp turned q sorted)))
      ∙ map.entries-from_sorted name_cmp turned sorted
      ∙ sym (ap (over (turned_back earlier)) made)
    where
      sorted : T (is_sorted name_cmp turned)
      sorted = true_is _ (sorted-turned earlier changes ∙ can.legal.names)

      at : (q : Name) (o : Option (Option Entry)) → find name_cmp q changes ≡ o
          → map.get set.changes q ≡ option_map (λ _. map.get earlier q) (find name_cmp q changes)
      at q None is = unchanged-here q is ∙ sym (ap (option_map (λ _. map.get earlier q)) is)
      at q (Some new) is = changed-here q new is ∙ sym (ap (option_map (λ _. map.get earlier q)) is)

  -- ---- what the verdict tells

  pub fetched : not_fetched set ≡ None
  fetched = nothing_of (λ m. if_unseen m (set.fronts m)) involved (λ m among. ap (if_unseen m) (front-is m among))

  -- behind the whole history there is no commit
  nothing-after : (m : ℕ) → blocking_behind store history set m (length history) ≡ None
  nothing-after m = by (counts_keys store m)
    where
      end : drop (length history) history ≡ []
      end = drop_all (length history) history (omega arith)

      by : (own : Bool)
          → cond own (first_same points history set m (length history)) (first_after history m (length history)) ≡ None
      by false = ap (position_from (touches m) (length history + 1)) end
      by true = ap (position_from (changes_same points set m) (length history + 1)) end

  pub free : conflict store history set ≡ None
  free = nothing_of (conflict_at store history set) set.touched (λ m among.
      let reached : is_among involved m ≡ true = (among-filter (differs before wanted) involved m among).0 in
      ap (λ o. option_map (Conflict m) (option_and_then (blocking_behind store history set m) o)) (front-is m reached) ∙ ap (option_map (Conflict m)) (nothing-after m))

  pub touches-some : set.touched ≢ []
  touches-some none = by can.commit.touched can.legal.some can.legal.each
    where
      by : (touched : List ℕ) → touched ≢ [] → AllByRecursion (HasChange points changes) touched → ⊥
      by [] some each = some refl
      by (m ∷ touched) some each =
          let q = each.0.name in
          let on : is_among set.touched (owner q each.0.new each.0.found).mount ≡ true = touched-here q each.0.new each.0.found in
          let off : is_among set.touched (owner q each.0.new each.0.found).mount ≡ false = ap (λ ms. is_among ms (owner q each.0.new each.0.found).mount) none in
          absurd cc

-- ---- a set that touches some mount is not the same

abbrev is_same : Late → Bool
is_same (Same aside) = true
is_same (Conflict m by) = false
is_same (TooLarge m size) = false
is_same (Invalid violation risen) = false
is_same (DatabaseFull n) = false
is_same (HistoryFull n) = false
is_same (Commits commit aside) = false

none_touched : (touched : List ℕ) (aside : ℕ) (late : Late) → if_untouched touched aside ≡ Some late → touched ≡ []
none_touched [] aside late e = refl
none_touched (m ∷ touched) aside late e = absurd cc

never_same : (formats : Formats) (store : Store) (history : List Commit) (keys : KeyMap) (set : Prepared) (aside : ℕ)
    → set.touched ≢ [] → IsLate formats store history keys set (Same aside) → ⊥
never_same formats store history keys set aside some late =
    let is : Late = Same aside in
    let w : ℕ = weight (after keys set.changes) in
    let h : ℕ = history_weight (history ++ commit_of set ∷ []) in
    some (none_touched set.touched set.aside is (told (if_untouched set.touched set.aside) is _ (λ rest.
    let open_now = skipped (conflict store history set) is _ (λ e. let off : is_same is ≡ false = not_conflict is_same store history set set.touched is (λ m by. refl) e in absurd cc) rest in
    let small = skipped (too_large formats store keys set) is _ (λ e. let off : is_same is ≡ false = not_large is_same formats store (after keys set.changes) set.touched is (λ m size. refl) e in absurd cc) open_now.1 in
    let valid = unruled (points_of store) keys set is _ (λ violation risen e. let off : is_same is ≡ false = ap is_same e in absurd cc) small.1 in
    let light = skipped (if_heavy w) is _ (λ e. let off : is_same is ≡ false = not_limited is_same (nat_lt heaviest_map w) (DatabaseFull (saturated w)) is refl e in absurd cc) valid.1 in
    let full = skipped (if_full h) is _ (λ e. let off : is_same is ≡ false = not_limited is_same (nat_lt heaviest_history h) (HistoryFull (saturated h)) is refl e in absurd cc) light.1 in
    let off : is_same is ≡ false = ap is_same full.1 in
    absurd cc) late))

module _ (formats : Formats) (store : Store) (history : List Commit) (handle : ℕ) (parent : Name) (rec : Record) (keys : KeyMap) (number : ℕ) (can : CanUndo formats store history parent keys number) where
  pub never-unfetched : (m : ℕ)
      → IsEarly formats store (undo_set store history handle parent rec keys number) (Some (NotFetched m)) → ⊥
  never-unfetched m is =
      never_unseen formats store (undo_set store history handle parent rec keys number) (fetched formats store history handle parent rec keys number can) (Some (NotFetched m)) m is refl

  pub never-blocked : (m by : ℕ)
      → IsLate formats store history (replay store.start history) (undo_set store history handle parent rec keys number) (Conflict m by)
      → ⊥
  never-blocked m by is =
      let set = undo_set store history handle parent rec keys number in
      let one : ◌≡◌ {A = Option Late} None (Some (Conflict m by)) = sym (free formats store history handle parent rec keys number can) ∙ is_blocked m by formats store history (replay store.start history) set is in
      absurd cc

  pub never-same : (aside : ℕ)
      → IsLate formats store history (replay store.start history) (undo_set store history handle parent rec keys number) (Same aside)
      → ⊥
  never-same aside is =
      never_same formats store history (replay store.start history) (undo_set store history handle parent rec keys number) aside (touches-some formats store history handle parent rec keys number can) is
