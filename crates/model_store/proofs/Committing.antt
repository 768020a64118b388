-- The commit of a set that passed and that nothing blocks is legal, and leaves of each touched mount what its handle's
-- record then keeps.
use Rattle.std.proofs.Common.{◌≡◌, ℕ, ◌+◌, ◌≤◌, Bool, true, false, cond, List, [], ◌∷◌, ◌++◌, length, Option, Some, None, refl, sym, ap, subst, ◌∙◌, arith, length-append}
use Rattle.std.specs.FinMap as map
use Rattle.std.specs.FinMap.{find}
use Rattle.std.specs.List.{range_with_len}
use Rattle.std.specs.Option.{option_map, unwrap_or}
use Rattle.std.specs.Ordering.{nat_cmp}
use Rattle.std.proofs.lemmas.List.Kept.{IsStrictlySortedBy-filter}
use Rattle.general_words.proofs.Lists.{some_is}
use Rattle.general_words.proofs.Tests.{true_of}
use Rattle.model_names.specs.Name.{Name}
use Rattle.model_names.specs.Order.{name_cmp}
use Rattle.model_maps.specs.Entry.{Entry}
use Rattle.model_maps.specs.KeyMap.{KeyMap, no_keys}
use Rattle.model_history.specs.Changes.{after}
use Rattle.model_history.specs.History.{Commit, first_after, is_among, replay}
use Rattle.model_history.proofs.ChangeLemmas.{get-after}
use Rattle.model_history.proofs.HistoryLemmas.{replay-append}
use Rattle.mounted_files.specs.Setting.{long_text}
use Rattle.mounted_files.specs.Short.{AreShort}
use Rattle.model_store.specs.Fitting.{Fits, too_heavy, too_long, bad_table, IsStorableAt}
use Rattle.model_store.specs.Legal.{HasChange, IsLegalCommit, AreLegal}
use Rattle.model_store.specs.Records.{Fronts, Record, Fetched, IsRecord, record_of, fetched_at, kept_at, seen_from}
use Rattle.model_store.specs.Sets.{Prepared, only, wants, kept, differs, set_of}
use Rattle.model_store.specs.Sound.{IsSound}
use Rattle.model_store.specs.Store.{Store, Formats, counts_keys, points_of}
use Rattle.model_store.specs.Verdicts.{commit_of, conflict, first_same, too_large, too_large_at}
use Rattle.model_store.proofs.ByName.{as_seen, none_same}
use Rattle.model_store.proofs.Fitted.{fits_by_key, mount_by_key, storable_mix}
use Rattle.model_store.proofs.Histories.{unblocked, untouched}
use Rattle.model_store.proofs.Judged.{HasPassed, IsCommitted, not_blocked, wanted_short}
use Rattle.model_store.proofs.Kept.{front-of, kept-of, seen-fixed, seen-own, seen-whole}
use Rattle.model_store.proofs.Lasting.{short-present, storable-present}
use Rattle.model_store.proofs.Members.{all_among, among-filter, itself_number, nothing_at, only-there, range-ascends}
use Rattle.model_store.proofs.Owners.{get-mine, get-other, owned-among}
use Rattle.model_store.proofs.Touched.{AreOwned, changed-at, change-differs, change-wanted, has-change, mixed-after, touched-after}
use Rattle.set_split.specs.Involved.{involved_in, is_involved, owns}
use Rattle.set_split.specs.Parts.{owned_by}

-- what fits goes by what is wanted for that mount
pub fits-alike : (formats : Formats) (store : Store) (wanted other : ℕ → KeyMap) (m : ℕ) → wanted m ≡ other m
    → Fits formats store wanted m → Fits formats store other m
fits-alike formats store wanted other m same h = record {
  light = subst (λ (k : KeyMap). too_heavy store (λ n. k) m ≡ None) same h.light;
  storable = subst (λ (k : KeyMap). IsStorableAt formats store (λ n. k) m) same h.storable;
  short = subst (λ (k : KeyMap). too_long formats store (λ n. k) m ≡ None) same h.short;
  table = subst (λ (k : KeyMap). bad_table store (λ n. k) m ≡ None) same h.table;
}

module _ (formats : Formats) (store : Store) (history : List Commit) (handle : ℕ) (fronts : Fronts) (parent : Name) (keys : KeyMap) where
  abbrev points : List Name
  points = points_of store

  abbrev involved : List ℕ
  involved = involved_in points parent

  abbrev rec_now : Record
  rec_now = record_of store history handle fronts

  abbrev before : ℕ → KeyMap
  before = kept (only involved (record_of store history handle fronts))

  abbrev wanted : ℕ → KeyMap
  wanted = wants points keys

  abbrev set : Prepared
  set = set_of store history handle fronts parent keys

  abbrev present : KeyMap
  present = replay store.start history

  -- what each mount owns after the commit
  abbrev then_wanted : ℕ → KeyMap
  then_wanted m = owned_by points m (after present set.changes)

  abbrev later : List Commit
  later = history ++ commit_of set ∷ []

  pub owned : AreOwned points before wanted
  owned = record { nothing_before = none; nothing_wanted = λ m q off. get-other points m keys q off }
    where
      in_record : (m : ℕ) (q : Name) → owns points m q ≡ false → (o : Option ℕ)
          → map.get (unwrap_or (option_map (λ (f : Fetched). f.kept) (option_map (fetched_at store history handle m) o)) no_keys) q
          ≡ None
      in_record m q off None = map.get-empty name_cmp q
      in_record m q off (Some front) =
          get-other points m (seen_from (counts_keys store m) store.start history handle front) q off

      none : (m : ℕ) (q : Name) → owns points m q ≡ false → map.get (before m) q ≡ None
      none m q off = elim (is_among involved m) as (λ b. map.get (unwrap_or (option_map (λ (f : Fetched). f.kept) (cond b (rec_now.fetched m) None)) no_keys) q ≡ None) [
        | true ↦ in_record m q off (fronts m)
        | false ↦ map.get-empty name_cmp q
      ]

  module _ (known : IsRecord store history handle fronts rec_now) (legal : AreLegal formats store store.start history) (passed : HasPassed formats store set) (free : conflict store history set ≡ None) where
    -- the front of a touched mount
    pub record HasFront (m : ℕ) : Type 0 where
      pub front : ℕ
      pub there : fronts m ≡ Some front
      pub in_set : set.fronts m ≡ Some front
      pub reached : is_among involved m ≡ true
      pub differ : differs before wanted m ≡ true

    pub has_front : (m : ℕ) → is_among set.touched m ≡ true → HasFront m
    has_front m among =
        let both = among-filter (differs before wanted) involved m among in
        let seen = passed.fetched m both.0 in
        record {
          front = seen.0;
          there = sym (ap (option_map (λ (f : Fetched). f.front)) (only-there involved rec_now m both.0) ∙ front-of store history handle fronts m) ∙ seen.1;
          in_set = seen.1;
          reached = both.0;
          differ = both.1;
        }

    pub good_at : (m : ℕ) → is_among set.touched m ≡ true → store.is_bad m ≡ false
    good_at m among = let at = has_front m among in known.good m at.front at.there

    -- what is kept of a touched mount, by the kind of the mount
    kept_is : (m : ℕ) (at : HasFront m) (own : Bool) → counts_keys store m ≡ own
        → owned_by points m (seen_from own store.start history handle at.front) ≡ before m
    kept_is m at own is =
        ap (λ b. owned_by points m (seen_from b store.start history handle at.front)) (sym is)
        ∙ sym (kept-of store history handle fronts m at.front at.there)
        ∙ sym (ap (λ (o : Option Fetched). unwrap_or (option_map (λ (f : Fetched). f.kept) o) no_keys) (only-there involved rec_now m at.reached))

    -- what blocks no mount, by its kind
    unblocked_at : (m : ℕ) → is_among set.touched m ≡ true → (at : HasFront m) (own : Bool) → counts_keys store m ≡ own
        → cond own (first_same points history set m at.front) (first_after history m at.front) ≡ None
    unblocked_at m among at own is =
        ap (λ b. cond b (first_same points history set m at.front) (first_after history m at.front)) (sym is)
        ∙ not_blocked store history set m at.front free among at.in_set

    -- ---- a mount by its backend

    -- the present map has of it what is kept,
    as_kept : (m : ℕ) → is_among set.touched m ≡ true → counts_keys store m ≡ false
        → owned_by points m present ≡ before m
    as_kept m among is =
        let at = has_front m among in
        unblocked formats store history m at.front legal (unblocked_at m among at false is) ∙ kept_is m at false is

    -- so after the commit what is wanted
    pub stored_at : (m : ℕ) → is_among set.touched m ≡ true → counts_keys store m ≡ false
        → owned_by points m (after present set.changes) ≡ wanted m
    stored_at m among is = touched-after points before wanted owned present set.touched m among (as_kept m among is)

    -- ---- a mount by key

    -- what the handle has of it is after the commit what is wanted
    seen_at : (m front : ℕ) → is_among set.touched m ≡ true → counts_keys store m ≡ true → fronts m ≡ Some front
        → owned_by points m (after (seen_from true store.start history handle front) set.changes) ≡ wanted m
    seen_at m front among is there =
        let at = has_front m among in
        let same : owned_by points m (seen_from true store.start history handle front) ≡ before m =
        ap (λ f. owned_by points m (seen_from true store.start history handle f)) (some_is front at.front (sym there ∙ at.there)) ∙ kept_is m at true is in
        touched-after points before wanted owned (seen_from true store.start history handle front) set.touched m among same

    -- ---- the changes

    -- the present map has of each changed name what is kept
    name_kept : (m : ℕ) (q : Name) (new : Option Entry) → is_among set.touched m ≡ true → owns points m q ≡ true
        → find name_cmp q (map.entries set.changes) ≡ Some new → map.get present q ≡ map.get (before m) q
    name_kept m q new among mine found = by (counts_keys store m) refl
      where
        at : HasFront m
        at = has_front m among

        by : (own : Bool) → counts_keys store m ≡ own → map.get present q ≡ map.get (before m) q
        by false is = sym (get-mine points m present q mine) ∙ ap (λ k. map.get k q) (as_kept m among is)
        by true is =
            as_seen store.start history handle at.front q (none_same points set m q new mine found history at.front (unblocked_at m among at true is))
            ∙ sym (get-mine points m (seen_from true store.start history handle at.front) q mine)
            ∙ ap (λ k. map.get k q) (kept_is m at true is)

    -- a new entry is one that is wanted, so no text of it is too long
    short_at : (q : Name) (new : Entry) → find name_cmp q (map.entries set.changes) ≡ Some (Some new)
        → long_text new ≡ None
    short_at q new found =
        let there = change-wanted points before wanted owned set.touched q (Some new) found in
        wanted_short formats store set there.0 passed (among-filter (differs before wanted) involved there.0 there.1).0 q new (sym there.2)

    -- so the map after the commit has none
    pub short_after : IsSound formats store → AreShort (after present set.changes)
    short_after sound q entry found = by (map.get set.changes q) refl (sym (get-after present set.changes q) ∙ found)
      where
        by : (o : Option (Option Entry)) → map.get set.changes q ≡ o → unwrap_or o (map.get present q) ≡ Some entry
            → long_text entry ≡ None
        by None is there = short-present formats store sound history legal q entry there
        by (Some None) is there = absurd cc
        by (Some (Some new)) is there =
            ap long_text (sym (some_is new entry there)) ∙ short_at q new (sym (map.get-entries set.changes q) ∙ is)

    -- ---- the files

    -- what the file of a mount by its backend is to hold fits, as it was found to,
    pub backend_fits : (m : ℕ) → is_among set.touched m ≡ true → counts_keys store m ≡ false
        → Fits formats store then_wanted m
    backend_fits m among is =
        fits-alike formats store wanted then_wanted m (sym (stored_at m among is)) (passed.fits m among)

    -- and that of one by key can be stored: its keys come from the present ones and from those that are wanted, which
    -- both can be
    key_storable : IsSound formats store → (m : ℕ) → is_among set.touched m ≡ true → counts_keys store m ≡ true
        → IsStorableAt formats store then_wanted m
    key_storable sound m among is =
        let fits = passed.fits m among in
        storable_mix formats store m (after present set.changes) (mount_by_key store m is) sound (owned_by points m present) (wanted m)
        (storable-present formats store sound history m legal (good_at m among)) fits.storable
        (λ q. mixed-after points before wanted owned present set.touched m q among)

    pub storable_after : IsSound formats store → (m : ℕ) → is_among set.touched m ≡ true
        → IsStorableAt formats store then_wanted m
    storable_after sound m among = by (counts_keys store m) refl
      where
        by : (own : Bool) → counts_keys store m ≡ own → IsStorableAt formats store then_wanted m
        by false is = let fits = backend_fits m among is in fits.storable
        by true is = key_storable sound m among is

    -- where none is too large each file takes what it is to hold
    pub fits_after : IsSound formats store → too_large formats store present set ≡ None → (m : ℕ)
        → is_among set.touched m ≡ true → Fits formats store then_wanted m
    fits_after sound small m among = by (counts_keys store m) refl
      where
        by : (own : Bool) → counts_keys store m ≡ own → Fits formats store then_wanted m
        by false is = backend_fits m among is
        by true is =
            fits_by_key formats store m (after present set.changes) (mount_by_key store m is) sound
            (nothing_at (too_large_at formats store (after present set.changes)) set.touched m small among) (key_storable sound m among is)

    pub legal_commit : IsSound formats store → (commit : Commit) → IsCommitted formats store history present set commit
        → IsLegalCommit formats store present (commit_of set)
    legal_commit sound commit done = record {
      some = done.some;
      good = all_among (λ m. store.is_bad m ≡ false) set.touched good_at;
      ascending = IsStrictlySortedBy-filter nat_cmp (differs before wanted) involved (IsStrictlySortedBy-filter nat_cmp (is_involved points parent) (range_with_len 0 (length points)) (range-ascends 0 (length points)));
      names = true_of _ (map.entries_sorted set.changes);
      owned = λ q new found. let at = changed-at points before wanted owned set.touched q new found in owned-among points set.touched at.mount q at.among at.mine;
      each = all_among (HasChange points (map.entries set.changes)) set.touched (λ m among. let at = has_front m among in has-change points before wanted owned set.touched m among at.differ);
      differs = λ q new found is. change-differs points before wanted owned present set.touched name_kept q new found is;
      short = short_at;
      fits = all_among (Fits formats store then_wanted) set.touched (fits_after sound done.small);
      valid = done.valid;
      light = done.light;
    }

    -- ---- what the record keeps then

    -- of a touched mount by its backend what was wanted, from the commit on,
    pub backend_kept : (m : ℕ) → is_among set.touched m ≡ true → counts_keys store m ≡ false
        → kept_at store later handle m (length history + 1) ≡ wanted m
    backend_kept m among is =
        ap (owned_by points m) (seen-whole (counts_keys store m) store.start later handle (length history + 1) (omega (arith, length-append history (commit_of set ∷ []))) ∙ replay-append store.start history (commit_of set ∷ []))
        ∙ stored_at m among is

    -- of one by key what was wanted, from its front on,
    pub key_kept : (m front : ℕ) → is_among set.touched m ≡ true → counts_keys store m ≡ true → fronts m ≡ Some front
        → kept_at store later handle m front ≡ wanted m
    key_kept m front among is there =
        ap (λ b. owned_by points m (seen_from b store.start later handle front)) is
        ∙ ap (owned_by points m) (seen-own store.start history (commit_of set) handle front (known.within m front there) (itself_number handle))
        ∙ seen_at m front among is there

  -- and of the others what it kept
  pub beside_kept : (fronts_within : (m front : ℕ) → fronts m ≡ Some front → front ≤ length history)
      → IsLegalCommit formats store present (commit_of set) → (m front : ℕ) → is_among set.touched m ≡ false
      → fronts m ≡ Some front
      → kept_at store later handle m front ≡ kept_at store history handle m front
  beside_kept within legal m front off there = by (counts_keys store m)
    where
      by : (own : Bool)
          → owned_by points m (seen_from own store.start later handle front)
          ≡ owned_by points m (seen_from own store.start history handle front)
      by false =
          ap (owned_by points m) (seen-fixed store.start history (commit_of set ∷ []) handle front (within m front there))
      by true =
          ap (owned_by points m) (seen-own store.start history (commit_of set) handle front (within m front there) (itself_number handle))
          ∙ untouched formats store present (seen_from true store.start history handle front) (commit_of set) m legal off
