-- The record of a handle after its own commit.
use Rattle.std.proofs.Common.{◌≡◌, ℕ, ◌+◌, ◌≤◌, Bool, true, false, cond, not, ◌&&◌, List, [], ◌∷◌, ◌++◌, length, Option, Some, None, refl, sym, ap, ◌∙◌, arith, length-append}
use Rattle.std.specs.Option.{option_map}
use Rattle.general_words.proofs.Lists.{some_is}
use Rattle.model_maps.specs.KeyMap.{KeyMap}
use Rattle.model_history.specs.History.{Commit, commits_by, is_among, is_by}
use Rattle.model_store.specs.Store.{Store, by_backend, counts_keys}
use Rattle.model_store.specs.Records.{Fronts, Record, Fetched, IsRecord, fetched_at, kept_at, record_of, seen_at}
use Rattle.model_store.specs.Cores.{kept_from, storing}
use Rattle.model_store.proofs.Kept.{commits_by-append}
use Rattle.model_store.proofs.Members.{among-filter, is_among-filter}

-- the commit is the handle's; of a touched mount it leaves what was wanted there, and of the others what was kept
module _ (store : Store) (history : List Commit) (commit : Commit) (handle : ℕ) (fronts : Fronts) (rec : Record) (keys : ℕ → KeyMap)
    (is_record : IsRecord store history handle fronts rec) (own : is_by handle commit ≡ true) (good : (m : ℕ) → is_among commit.touched m ≡ true → store.is_bad m ≡ false)
    (backend : (m : ℕ) → is_among commit.touched m ≡ true → counts_keys store m ≡ false → kept_at store (history ++ commit ∷ []) handle m (length history + 1) ≡ keys m)
    (by_key : (m front : ℕ) → is_among commit.touched m ≡ true → counts_keys store m ≡ true → fronts m ≡ Some front → kept_at store (history ++ commit ∷ []) handle m front ≡ keys m)
    (beside : (m front : ℕ) → is_among commit.touched m ≡ false → fronts m ≡ Some front → kept_at store (history ++ commit ∷ []) handle m front ≡ kept_at store history handle m front) where
  abbrev number : ℕ
  number = length history + 1

  abbrev moved : Fronts
  moved = seen_at (by_backend store commit.touched) number fronts

  -- a front is the commit's number, or that before
  within : (m front : ℕ) → moved m ≡ Some front → front ≤ length (history ++ commit ∷ [])
  within m front = elim (is_among (by_backend store commit.touched) m) as (λ b. cond b (Some number) (fronts m) ≡ Some front → front ≤ length (history ++ commit ∷ [])) [
    | true ↦ λ e. omega (arith, some_is number front e, length-append history (commit ∷ []))
    | false ↦ λ e. omega (arith, is_record.within m front e, length-append history (commit ∷ []))
  ]

  good_at : (m front : ℕ) → moved m ≡ Some front → store.is_bad m ≡ false
  good_at m front = elim (is_among (by_backend store commit.touched) m) as (λ b. is_among (by_backend store commit.touched) m ≡ b → cond b (Some number) (fronts m) ≡ Some front → store.is_bad m ≡ false) [
    | true ↦ λ among e. good m (among-filter (λ n. not (counts_keys store n)) commit.touched m among).0
    | false ↦ λ among e. is_record.good m front e
  ] refl

  abbrev with_keys : ℕ → KeyMap → Fetched
  with_keys front kept = record { front = front; kept = kept }

  is_at : (m : ℕ)
      → (storing store commit.touched number keys rec).fetched m
      ≡ (record_of store (history ++ commit ∷ []) handle moved).fetched m
  is_at m =
      ap (λ (o : Option Fetched). cond (is_among commit.touched m) (kept_from (counts_keys store m) number (keys m) o) o) (is_record.is m)
      ∙ by (is_among commit.touched m) refl (counts_keys store m) refl (fronts m) refl
      ∙ ap (λ b. option_map (fetched_at store (history ++ commit ∷ []) handle m) (cond b (Some number) (fronts m))) (sym (is_among-filter (λ n. not (counts_keys store n)) commit.touched m))
    where
      by : (t : Bool) → is_among commit.touched m ≡ t → (k : Bool) → counts_keys store m ≡ k → (o : Option ℕ)
          → fronts m ≡ o
          → cond t (kept_from k number (keys m) (option_map (fetched_at store history handle m) o)) (option_map (fetched_at store history handle m) o)
          ≡ option_map (fetched_at store (history ++ commit ∷ []) handle m) (cond (t && not k) (Some number) o)
      by true among true key None is = refl
      by true among true key (Some front) is =
          ap (λ (kept : KeyMap). Some (with_keys front kept)) (sym (by_key m front among key is))
      by true among false key o is = ap (λ (kept : KeyMap). Some (with_keys number kept)) (sym (backend m among key))
      by false among k key None is = refl
      by false among k key (Some front) is =
          ap (λ (kept : KeyMap). Some (with_keys front kept)) (sym (beside m front among is))

  pub record-stores : IsRecord store (history ++ commit ∷ []) handle moved (storing store commit.touched number keys rec)
  record-stores = record {
    within = within;
    good = good_at;
    is = is_at;
    count =
        ap (λ n. n + 1) is_record.count
        ∙ sym (ap length (commits_by-append handle history (commit ∷ []) ∙ ap (λ b. commits_by handle history ++ cond b (commit ∷ []) []) own) ∙ length-append (commits_by handle history) (commit ∷ []));
  }
