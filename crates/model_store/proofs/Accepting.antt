-- A record accepts the set that it makes, and a set that it accepts is the one that it makes.
use Rattle.std.proofs.Common.{◌≡◌, ℕ, ◌+◌, ◌≤◌, true, cond, nat_eq, List, [], ◌∷◌, ◌++◌, length, Option, Some, None, refl, sym, ap, ap₂, ◌∙◌, arith, eqb-true, length-append}
use Rattle.std.specs.FinMap as map
use Rattle.std.specs.List.{list_all}
use Rattle.std.specs.Option.{option_eq, option_map}
use Rattle.std.proofs.lemmas.Bool.{and_from, and_parts}
use Rattle.std.proofs.lemmas.List.{nil_from_length}
use Rattle.general_words.proofs.Tests.{number_itself}
use Rattle.model_history.specs.History.{Commit, commits_by, is_among}
use Rattle.model_maps.specs.KeyMap.{KeyMap}
use Rattle.model_names.specs.Name.{Name}
use Rattle.model_store.specs.Cores.{accepts}
use Rattle.model_store.specs.Events.{put}
use Rattle.model_store.specs.Records.{Fetched, Fronts, IsRecord, Record, fetched_at, record_of}
use Rattle.model_store.specs.Sets.{front_in, only, prepared, prepared_by, set_of}
use Rattle.model_store.specs.Store.{Store, points_of}
use Rattle.model_store.proofs.Kept.{commits_by-append, front-of, kept-stays, record-whole}
use Rattle.model_store.proofs.Members.{among-first, among-rest, from_list_all, itself_number, only-alike, only-there, same_numbers}
use Rattle.set_split.specs.Involved.{involved_in}
use Rattle.set_split.specs.Parts.{left_aside}

pub put-here : {A : Type 0} (n : ℕ) (a : A) (f : ℕ → A) → put n a f n ≡ a
put-here n a f = ap (λ b. cond b a (f n)) (itself_number n)

-- ---- the set that a record makes

all_fronts : (rec : Record) (involved ms : List ℕ) → ((m : ℕ) → is_among ms m ≡ true → is_among involved m ≡ true)
    → list_all (λ m. option_eq nat_eq (front_in rec m) (front_in (only involved rec) m)) ms ≡ true
all_fronts rec involved [] there = refl
all_fronts rec involved (m ∷ ms) there =
    and_from _ _ (ap (λ b. option_eq nat_eq (front_in rec m) (front_of (cond b (rec.fetched m) None))) (there m (among-first m ms)) ∙ number_itself (front_in rec m))
    (all_fronts rec involved ms (λ k among. there k (among-rest m k ms among)))
  where
    front_of : Option Fetched → Option ℕ
    front_of o = option_map (λ (f : Fetched). f.front) o

pub accepts-own : (points : List Name) (handle : ℕ) (rec : Record) (parent : Name) (keys : KeyMap)
    → accepts rec handle (prepared points handle rec parent keys) ≡ true
accepts-own points handle rec parent keys =
    let involved = involved_in points parent in
    let each = all_fronts rec involved involved (λ m among. among) in
    and_from _ _ (itself_number handle) (and_from _ _ (itself_number rec.committed) each)

-- ---- a set that was made earlier

-- the set of a record that is accepted by a record of the history as it went on is the one that this record makes now:
-- the fronts of the involved mounts are the same, and the handle committed nothing since
module _ (store : Store) (history later : List Commit) (number handle : ℕ) (earlier now : Fronts) (parent : Name) (keys : KeyMap)
    (within : (m front : ℕ) → earlier m ≡ Some front → front ≤ length history)
    (ok : accepts (record_of store (history ++ later) number now) number (set_of store history handle earlier parent keys) ≡ true) where
  abbrev involved : List ℕ
  involved = involved_in (points_of store) parent

  abbrev before : Record
  before = record_of store history handle earlier

  abbrev rec : Record
  rec = record_of store (history ++ later) number now

  -- the three tests
  same_handle : number ≡ handle
  same_handle = eqb-true number handle (and_parts _ _ ok).0

  same_count : length (commits_by number (history ++ later)) ≡ length (commits_by handle history)
  same_count =
      eqb-true rec.committed before.committed (and_parts (nat_eq rec.committed before.committed) _ (and_parts (nat_eq number handle) _ ok).1).0

  same_front : (m : ℕ) → is_among involved m ≡ true → now m ≡ earlier m
  same_front m among =
      sym (front-of store (history ++ later) number now m)
      ∙ same_numbers _ _ (from_list_all (λ n. option_eq nat_eq (front_in rec n) (front_in (only involved before) n)) involved m (and_parts (nat_eq rec.committed before.committed) _ (and_parts (nat_eq number handle) _ ok).1).1 among)
      ∙ ap (option_map (λ (f : Fetched). f.front)) (only-there involved before m among)
      ∙ front-of store history handle earlier m

  -- so the handle committed nothing since,
  pub none_since : commits_by number later ≡ []
  none_since =
      let all : length (commits_by number (history ++ later)) ≡ length (commits_by number history) = same_count ∙ ap (λ n. length (commits_by n history)) (sym same_handle) in
      let both : length (commits_by number (history ++ later)) ≡ length (commits_by number history) + length (commits_by number later) =
      ap length (commits_by-append number history later) ∙ length-append (commits_by number history) (commits_by number later) in
      nil_from_length (commits_by number later) (omega (arith, all, both))

  -- and both records keep the same of the involved mounts
  same_kept : (m : ℕ) → is_among involved m ≡ true → before.fetched m ≡ rec.fetched m
  same_kept m among =
      by (earlier m) refl ∙ ap (option_map (fetched_at store (history ++ later) number m)) (sym (same_front m among))
    where
      by : (o : Option ℕ) → earlier m ≡ o
          → option_map (fetched_at store history handle m) o
          ≡ option_map (fetched_at store (history ++ later) number m) o
      by None there = refl
      by (Some front) there =
          let at : KeyMap → Fetched = λ kept. record { front = front; kept = kept } in
          ap (λ n. Some (fetched_at store history n m front)) (sym same_handle)
          ∙ ap (λ (kept : KeyMap). Some (at kept)) (sym (kept-stays store history later number m front (within m front there) none_since))

  pub accepted : set_of store history handle earlier parent keys
      ≡ set_of store (history ++ later) number now parent keys
  accepted =
      ap₂ (λ (n : ℕ) (r : Record). prepared_by (points_of store) n involved r keys (length (map.entries (left_aside (points_of store) parent keys)))) (sym same_handle)
      (only-alike involved before rec same_kept (sym same_count))

-- the same of two records that are those of some fronts
module _ (store : Store) (history later : List Commit) (number handle : ℕ) (earlier now : Fronts) (before rec : Record) (parent : Name) (keys : KeyMap)
    (was : IsRecord store history handle earlier before) (is : IsRecord store (history ++ later) number now rec) (ok : accepts rec number (prepared (points_of store) handle before parent keys) ≡ true) where
  same_before : before ≡ record_of store history handle earlier
  same_before = record-whole store history handle earlier before was

  same_now : rec ≡ record_of store (history ++ later) number now
  same_now = record-whole store (history ++ later) number now rec is

  ok_now : accepts (record_of store (history ++ later) number now) number (set_of store history handle earlier parent keys)
      ≡ true
  ok_now =
      sym (ap₂ (λ (r s : Record). accepts r number (prepared (points_of store) handle s parent keys)) same_now same_before)
      ∙ ok

  pub accepted_record : prepared (points_of store) handle before parent keys
      ≡ prepared (points_of store) number rec parent keys
  accepted_record =
      ap (λ (r : Record). prepared (points_of store) handle r parent keys) same_before
      ∙ accepted store history later number handle earlier now parent keys was.within ok_now
      ∙ sym (ap (λ (r : Record). prepared (points_of store) number r parent keys) same_now)
