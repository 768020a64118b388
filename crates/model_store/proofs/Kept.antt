-- Records as the history goes on, and as a get moves them; what a set is by the fronts of the involved mounts alone.
use Rattle.std.proofs.Common.{◌≡◌, ◌≤◌, ℕ, Bool, true, false, cond, nat_eq, List, [], ◌∷◌, ◌++◌, length, take, drop, Option, Some, None, refl, sym, ap, ap₂, subst, ◌∙◌, arith, append-nil, length-append, eqb-true}
use Rattle.std.specs.Option.{option_map, unwrap_or}
use Rattle.std.proofs.lemmas.List.{drop_all, drop-append-le, take_all, take-append-le}
use Rattle.std.proofs.lemmas.List.Elements.{filter-append}
use Rattle.general_words.proofs.Lists.{some_is}
use Rattle.model_maps.specs.KeyMap.{KeyMap, no_keys}
use Rattle.model_history.specs.Changes.{changed_by}
use Rattle.model_history.specs.History.{Commit, commits_by, is_among, is_by, replay}
use Rattle.model_history.proofs.HistoryLemmas.{replay-append}
use Rattle.model_store.specs.Store.{Store, Formats, counts_keys, points_of}
use Rattle.model_store.specs.Records.{Fronts, Record, Fetched, IsRecord, record_of, fetched_at, kept_at, seen_at, seen_from}
use Rattle.model_store.specs.Sets.{Prepared, kept, front_in, set_of}
use Rattle.model_store.specs.Cores.{keeping}
use Rattle.model_store.specs.Events.{if_bad, put}
use Rattle.model_store.specs.Promise.{IsAsked, IsSet}
use Rattle.model_store.specs.Worlds.{Asked}
use Rattle.set_split.specs.Parts.{owned_by}

-- what holds of the new one at its number, and of those told at the others, holds with it
pub put-each : {A B : Type 0} (P : ℕ → A → B → Type 0) (r : ℕ) (a : A) (b : B) (f : ℕ → A) (g : ℕ → B) → P r a b
    → ((n : ℕ) → nat_eq n r ≡ false → P n (f n) (g n)) → (n : ℕ) → P n (put r a f n) (put r b g n)
put-each P r a b f g new old n = elim (nat_eq n r) as (λ t. nat_eq n r ≡ t → P n (cond t a (f n)) (cond t b (g n))) [
  | true ↦ λ is. subst (λ k. P k a b) (sym (eqb-true n r is)) new
  | false ↦ λ is. old n is
] refl

-- ---- what a handle has at a front

-- the commits of a handle in two parts of a history
pub commits_by-append : (handle : ℕ) (history later : List Commit)
    → commits_by handle (history ++ later) ≡ commits_by handle history ++ commits_by handle later
commits_by-append handle history later = filter-append (is_by handle) history later

-- where others made the later commits, its own are those that it had
pub by-others : (handle : ℕ) (history later : List Commit) → commits_by handle later ≡ []
    → commits_by handle (history ++ later) ≡ commits_by handle history
by-others handle history later none =
    commits_by-append handle history later ∙ ap (λ rest. commits_by handle history ++ rest) none
    ∙ append-nil (commits_by handle history)

-- and it has at a front what it had
pub seen-stays : (own : Bool) (start : KeyMap) (history later : List Commit) (handle front : ℕ) → front ≤ length history
    → commits_by handle later ≡ []
    → seen_from own start (history ++ later) handle front ≡ seen_from own start history handle front
seen-stays false start history later handle front le none = ap (replay start) (take-append-le front history later le)
seen-stays true start history later handle front le none =
    ap₂ (λ (first rest : List Commit). replay (replay start first) rest) (take-append-le front history later le)
    (ap (commits_by handle) (drop-append-le front history later le) ∙ by-others handle (drop front history) later none)

-- by the whole backend a handle has at a front what it had, whoever commits
pub seen-fixed : (start : KeyMap) (history later : List Commit) (handle front : ℕ) → front ≤ length history
    → seen_from false start (history ++ later) handle front ≡ seen_from false start history handle front
seen-fixed start history later handle front le = ap (replay start) (take-append-le front history later le)

-- by keys it has its own commit too
pub seen-own : (start : KeyMap) (history : List Commit) (commit : Commit) (handle front : ℕ) → front ≤ length history
    → is_by handle commit ≡ true
    → seen_from true start (history ++ commit ∷ []) handle front
    ≡ changed_by commit.changes (seen_from true start history handle front)
seen-own start history commit handle front le own =
    ap₂ (λ (first rest : List Commit). replay (replay start first) rest) (take-append-le front history (commit ∷ []) le)
    (ap (commits_by handle) (drop-append-le front history (commit ∷ []) le)
    ∙ commits_by-append handle (drop front history) (commit ∷ [])
    ∙ ap (λ b. commits_by handle (drop front history) ++ cond b (commit ∷ []) []) own)
    ∙ replay-append (replay start (take front history)) (commits_by handle (drop front history)) (commit ∷ [])

-- at the end of the history it has what there is
pub seen-whole : (own : Bool) (start : KeyMap) (history : List Commit) (handle front : ℕ) → length history ≤ front
    → seen_from own start history handle front ≡ replay start history
seen-whole false start history handle front le = ap (replay start) (take_all front history le)
seen-whole true start history handle front le =
    ap₂ (λ (first rest : List Commit). replay (replay start first) (commits_by handle rest)) (take_all front history le) (drop_all front history le)

module _ (store : Store) where
  -- a mount that isn't told as bad is good
  pub good_mount : (m : ℕ) → if_bad store m ≡ None → store.is_bad m ≡ false
  good_mount m none =
      elim (store.is_bad m) as (λ b. cond b (Some m) None ≡ None → b ≡ false) [ true ↦ λ e. absurd cc | false ↦ λ e. refl ] none

  -- ---- what others commit

  -- what is kept at a front stays while others commit
  pub kept-stays : (history later : List Commit) (handle m front : ℕ) → front ≤ length history
      → commits_by handle later ≡ []
      → kept_at store (history ++ later) handle m front ≡ kept_at store history handle m front
  kept-stays history later handle m front le none =
      ap (owned_by (points_of store) m) (seen-stays (counts_keys store m) store.start history later handle front le none)

  -- so a record of the definitions does
  pub records-stay : (history later : List Commit) (handle : ℕ) (fronts : Fronts)
      → ((m front : ℕ) → fronts m ≡ Some front → front ≤ length history) → commits_by handle later ≡ []
      → record_of store history handle fronts ≡ record_of store (history ++ later) handle fronts
  records-stay history later handle fronts within none = λ i. record { fetched = λ m. at m i; committed = count i }
    where
      at : (m : ℕ)
          → (record_of store history handle fronts).fetched m
          ≡ (record_of store (history ++ later) handle fronts).fetched m
      at m = elim (fronts m) as (λ (o : Option ℕ). fronts m ≡ o → option_map (fetched_at store history handle m) o ≡ option_map (fetched_at store (history ++ later) handle m) o) [
        | None ↦ λ is. refl
        | Some front ↦ λ is.
            let here : KeyMap → Fetched = λ keys. record { front = front; kept = keys } in
            ap (λ (keys : KeyMap). Some (here keys)) (sym (kept-stays history later handle m front (within m front is) none))
      ] refl

      count : length (commits_by handle history) ≡ length (commits_by handle (history ++ later))
      count = ap length (sym (by-others handle history later none))

  pub record-stays : (history later : List Commit) (handle : ℕ) (fronts : Fronts) (rec : Record)
      → IsRecord store history handle fronts rec → commits_by handle later ≡ []
      → IsRecord store (history ++ later) handle fronts rec
  record-stays history later handle fronts rec h none =
      let same : record_of store history handle fronts ≡ record_of store (history ++ later) handle fronts = records-stay history later handle fronts h.within none in
      record {
        within = λ m front is. omega (arith, length-append history later, h.within m front is);
        good = h.good;
        is = λ m. h.is m ∙ ap (λ (rec : Record). rec.fetched m) same;
        count = h.count ∙ ap (λ (rec : Record). rec.committed) same;
      }

  -- what was asked goes by the history that was found
  pub asked-stays : (formats : Formats) (history later : List Commit) (asked : Asked) (set : Prepared)
      → IsAsked formats store history asked set → IsAsked formats store (history ++ later) asked set
  asked-stays formats history later asked set h = record {
    found = omega (arith, length-append history later, h.found);
    within = h.within;
    is = h.is ∙ ap (λ (first : List Commit). set_of store first asked.handle asked.fronts asked.parent asked.keys) (sym (take-append-le asked.found history later h.found));
    passed = h.passed;
  }

  pub set-stays : (formats : Formats) (history later : List Commit) (asked : Option Asked) (set : Option Prepared)
      → IsSet formats store history asked set → IsSet formats store (history ++ later) asked set
  set-stays formats history later None None h = tt
  set-stays formats history later (Some asked) (Some set) h = asked-stays formats history later asked set h
  set-stays formats history later None (Some set) h = absurd h
  set-stays formats history later (Some asked) None h = absurd h

  -- ---- a get

  -- a record that keeps of some good mounts what they have after the whole history, with that front
  pub record-moves : (history : List Commit) (handle : ℕ) (fronts : Fronts) (rec : Record) (mounts : List ℕ) (front : ℕ)
      (keys : ℕ → KeyMap) → IsRecord store history handle fronts rec → front ≡ length history
      → ((m : ℕ) → is_among mounts m ≡ true → store.is_bad m ≡ false)
      → ((m : ℕ) → is_among mounts m ≡ true → keys m ≡ owned_by (points_of store) m (replay store.start history))
      → IsRecord store history handle (seen_at mounts front fronts) (keeping mounts front keys rec)
  record-moves history handle fronts rec mounts front keys h whole good same =
      record { within = within; good = good_at; is = is_at; count = h.count }
    where
      within : (m f : ℕ) → seen_at mounts front fronts m ≡ Some f → f ≤ length history
      within m f = elim (is_among mounts m) as (λ b. cond b (Some front) (fronts m) ≡ Some f → f ≤ length history) [
        | true ↦ λ e. omega (arith, some_is front f e, whole)
        | false ↦ λ e. h.within m f e
      ]

      good_at : (m f : ℕ) → seen_at mounts front fronts m ≡ Some f → store.is_bad m ≡ false
      good_at m f = elim (is_among mounts m) as (λ b. is_among mounts m ≡ b → cond b (Some front) (fronts m) ≡ Some f → store.is_bad m ≡ false) [
        | true ↦ λ among e. good m among
        | false ↦ λ among e. h.good m f e
      ] refl

      fetched : ℕ → Fetched
      fetched m = record { front = front; kept = keys m }

      is_at : (m : ℕ)
          → (keeping mounts front keys rec).fetched m
          ≡ (record_of store history handle (seen_at mounts front fronts)).fetched m
      is_at m = elim (is_among mounts m) as (λ b. is_among mounts m ≡ b → cond b (Some (fetched m)) (rec.fetched m) ≡ option_map (fetched_at store history handle m) (cond b (Some front) (fronts m))) [
        | true ↦ λ among.
            let at : KeyMap → Fetched = λ k. record { front = front; kept = k } in
            ap (λ (k : KeyMap). Some (at k)) (same m among ∙ ap (owned_by (points_of store) m) (sym (seen-whole (counts_keys store m) store.start history handle front (omega (arith, whole)))))
        | false ↦ λ among. h.is m
      ] refl

  -- ---- what is kept, and which front, by a record of the definitions

  pub front-of : (history : List Commit) (handle : ℕ) (fronts : Fronts) (m : ℕ)
      → front_in (record_of store history handle fronts) m ≡ fronts m
  front-of history handle fronts m = by (fronts m)
    where
      by : (o : Option ℕ) → option_map (λ (f : Fetched). f.front) (option_map (fetched_at store history handle m) o) ≡ o
      by None = refl
      by (Some front) = refl

  -- a record tells its fronts
  pub front-told : (history : List Commit) (handle : ℕ) (fronts : Fronts) (rec : Record) (m : ℕ)
      → IsRecord store history handle fronts rec → front_in rec m ≡ fronts m
  front-told history handle fronts rec m h =
      ap (option_map (λ (f : Fetched). f.front)) (h.is m) ∙ front-of history handle fronts m

  pub kept-of : (history : List Commit) (handle : ℕ) (fronts : Fronts) (m front : ℕ) → fronts m ≡ Some front
      → kept (record_of store history handle fronts) m ≡ kept_at store history handle m front
  kept-of history handle fronts m front is =
      ap (λ (o : Option ℕ). unwrap_or (option_map (λ (f : Fetched). f.kept) (option_map (fetched_at store history handle m) o)) no_keys) is

  -- a record is the record of its fronts
  pub record-whole : (history : List Commit) (handle : ℕ) (fronts : Fronts) (rec : Record)
      → IsRecord store history handle fronts rec → rec ≡ record_of store history handle fronts
  record-whole history handle fronts rec h = λ i. record { fetched = λ m. h.is m i; committed = h.count i }

  -- and that of its own fronts
  pub record-own : (history : List Commit) (handle : ℕ) (fronts : Fronts)
      → ((m front : ℕ) → fronts m ≡ Some front → front ≤ length history)
      → ((m front : ℕ) → fronts m ≡ Some front → store.is_bad m ≡ false)
      → IsRecord store history handle fronts (record_of store history handle fronts)
  record-own history handle fronts within good = record { within = within; good = good; is = λ m. refl; count = refl }
