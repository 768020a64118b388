-- The commit that blocks a set is another handle's: fronts cover the own ones, and a mount by key passes over them.
use Rattle.std.proofs.Common.{◌≡◌, ◌≢◌, ℕ, ◌+◌, ◌-◌, ◌<◌, ◌≤◌, Bool, true, false, cond, List, [], ◌∷◌, drop, length, slice_get, Option, Some, None, Err, refl, sym, ap, subst, ◌∙◌, arith, eq-eqb, length-drop}
use Rattle.std.specs.FinMap as map
use Rattle.std.specs.List.{position_from}
use Rattle.std.specs.Option.{option_and_then, option_map, option_or, unwrap_or}
use Rattle.general_words.specs.Searches.{first_some}
use Rattle.general_words.proofs.Lists.{some_is}
use Rattle.general_words.proofs.Places.{there_is}
use Rattle.kdb_handle.specs.Fronts.{Cover, IsAnothers}
use Rattle.kdb_handle.specs.Handles.{HandleValue}
use Rattle.kdb_handle.specs.Opened.{store_at}
use Rattle.kdb_handle.specs.Sets.{IsDone}
use Rattle.kdb_handle.specs.Stores.{IsHandle}
use Rattle.kdb_handle.specs.Story.{Told, commits_of}
use Rattle.kdb_handle.specs.Turns.{IsPrepared}
use Rattle.kdb_handle.proofs.CoverLemmas.{cover-seen}
use Rattle.model_history.specs.History.{Commit, first_after, is_among, is_by, replay, touches}
use Rattle.model_history.proofs.HistoryLemmas.{position-from, position-within}
use Rattle.model_maps.specs.KeyMap.{KeyMap}
use Rattle.model_names.specs.Name.{Name}
use Rattle.model_store.specs.Cores.{keeping}
use Rattle.model_store.specs.Records.{Fetched, Fronts, Record}
use Rattle.model_store.specs.Sets.{Prepared as Set, front_in, only}
use Rattle.model_store.specs.Store.{Store, Formats, counts_keys, points_of}
use Rattle.model_store.specs.Verdicts as late
use Rattle.model_store.specs.Verdicts.{Late, blocking, blocking_behind, changes_same, conflict, conflict_at, first_same}
use Rattle.model_store.proofs.Others.{by-another, there-behind}
use Rattle.model_store.proofs.VerdictLemmas.{is_blocked}
use Rattle.seat_lock.specs.Known.{Place}
use Rattle.set_split.specs.Involved.{involved_in}
use Rattle.store_core.specs.declared.committing.CommitFault.TheVariants as fault
use Rattle.store_core.specs.declared.cores.Plan.{Plan}
use Rattle.store_verdict.specs.PreparedView.{prepared_of}
use Rattle.store_verdict.specs.RecordView.{record_of}
use Rattle.store_verdict.specs.declared.prepared.Prepared.{Prepared}

-- ---- where a conflict comes from

-- the mount of a conflict, and the number of its commit
abbrev mount_in : Late → ℕ
mount_in (late.Conflict m by) = m
mount_in other = 0

abbrev number_in : Late → ℕ
number_in (late.Conflict m by) = by
number_in other = 0

pub blocked_at : (store : Store) (history : List Commit) (set : Set) (mounts : List ℕ) (m by : ℕ)
    → first_some (conflict_at store history set) mounts ≡ Some (late.Conflict m by)
    → blocking store history set m ≡ Some by
blocked_at store history set [] m by e = absurd cc
blocked_at store history set (n ∷ mounts) m by e =
    at_mount (blocking store history set n) refl (blocked_at store history set mounts m by) e
  where
    at_mount : (o : Option ℕ) → blocking store history set n ≡ o
        → (first_some (conflict_at store history set) mounts ≡ Some (late.Conflict m by) → blocking store history set m ≡ Some by)
        → option_or (option_map (late.Conflict n) o) (first_some (conflict_at store history set) mounts)
        ≡ Some (late.Conflict m by)
        → blocking store history set m ≡ Some by
    at_mount None is later rest = later rest
    at_mount (Some c) is later here =
        let one = some_is (late.Conflict n c) (late.Conflict m by) here in
        ap (blocking store history set) (sym (ap mount_in one)) ∙ is ∙ ap Some (ap number_in one)

-- the front that a prepared set has of a mount is its record's
pub own_front : (mounts : List ℕ) (rec : Record) (m front : ℕ) → front_in (only mounts rec) m ≡ Some front
    → front_in rec m ≡ Some front
own_front mounts rec m front is = by (is_among mounts m) is
  where
    by : (b : Bool) → option_map (λ (fetched : Fetched). fetched.front) (cond b (rec.fetched m) None) ≡ Some front
        → front_in rec m ≡ Some front
    by true e = e
    by false e = absurd cc

-- a front that a set has of a mount is of an involved one
among_front : (mounts : List ℕ) (rec : Record) (m front : ℕ) → front_in (only mounts rec) m ≡ Some front
    → is_among mounts m ≡ true
among_front mounts rec m front is = by (is_among mounts m) is
  where
    by : (b : Bool) → option_map (λ (fetched : Fetched). fetched.front) (cond b (rec.fetched m) None) ≡ Some front
        → b ≡ true
    by true e = refl
    by false e = absurd cc

-- the fronts of some mounts lie at or above a number
abbrev pub SeesTo : List ℕ → ℕ → Record → Type 0
SeesTo mounts n rec = (m front : ℕ) → is_among mounts m ≡ true → front_in rec m ≡ Some front → n ≤ front

-- a record that sees these mounts anew
pub sees-keeping : (mounts : List ℕ) (front : ℕ) (kept : ℕ → KeyMap) (rec : Record)
    → SeesTo mounts front (keeping mounts front kept rec)
sees-keeping mounts front kept rec m other among is =
    let here : front_in (keeping mounts front kept rec) m ≡ Some front = ap (λ (b : Bool). option_map (λ (f : Fetched). f.front) (cond b (Some (record { front = front; kept = kept m })) (rec.fetched m))) among in
    let same : front ≡ other = some_is front other (sym here ∙ is) in
    omega (arith, same)

-- ---- where the blocking commit lies

-- what is found behind a front lies behind it, and within the history
module _ (test : Commit → Bool) (history : List Commit) (front by : ℕ) (found : position_from test (front + 1) (drop front history) ≡ Some by) where
  found-behind : front < by
  found-behind = omega (arith, position-from test (front + 1) (drop front history) by found)

  found-within : by ≤ length history
  found-within =
      omega (arith, found-behind, position-within test (front + 1) (drop front history) by found, length-drop front history)

-- so does the commit that blocks a mount
far-off : (store : Store) (history : List Commit) (set : Set) (m front by : ℕ) (own : Bool)
    → cond own (first_same (points_of store) history set m front) (first_after history m front) ≡ Some by
    → (front < by) × (by ≤ length history)
far-off store history set m front by false e =
    (found-behind (touches m) history front by e, found-within (touches m) history front by e)
far-off store history set m front by true e =
    (found-behind (changes_same (points_of store) set m) history front by e, found-within (changes_same (points_of store) set m) history front by e)

pub blocks-behind : (store : Store) (history : List Commit) (set : Set) (mounts : List ℕ) (rec : Record) (m by n : ℕ)
    → set.fronts ≡ front_in (only mounts rec) → SeesTo mounts n rec → blocking store history set m ≡ Some by
    → (n < by) × (by ≤ length history)
blocks-behind store history set mounts rec m by n fronts sees blocks =
    by_front (set.fronts m) (ap (λ (f : Fronts). f m) (sym fronts)) blocks
  where
    by_front : (o : Option ℕ) → front_in (only mounts rec) m ≡ o
        → option_and_then (blocking_behind store history set m) o ≡ Some by → (n < by) × (by ≤ length history)
    by_front None is e = absurd cc
    by_front (Some front) is e =
        let least : n ≤ front = sees m front (among_front mounts rec m front is) (own_front mounts rec m front is) in
        let far = far-off store history set m front by (counts_keys store m) e in
        (omega (arith, least, far.0), far.1)

-- the commit that blocks a mount isn't one that a front there covers, and a mount by key passes over the handle's own
pub another : (store : Store) (history : List Commit) (set : Set) (rec : Record) (mounts : List ℕ) (m by : ℕ)
    → set.fronts ≡ front_in (only mounts rec) → Cover store set.handle history (front_in rec)
    → blocking store history set m ≡ Some by → IsAnothers set.handle history by
another store history set rec mounts m by fronts covers blocks =
    by_front (set.fronts m) (ap (λ (f : Fronts). f m) (sym fronts)) blocks
  where
    by_front : (o : Option ℕ) → front_in (only mounts rec) m ≡ o
        → option_and_then (blocking_behind store history set m) o ≡ Some by → IsAnothers set.handle history by
    by_front None is e = absurd cc
    by_front (Some front) is e =
        let far = far-off store history set m front by (counts_keys store m) e in
        let place : ℕ = by - 1 in
        let by_is : by ≡ place + 1 = omega (arith, far.0) in
        let found = there_is history place (omega (arith, far.0, far.1)) in
        let blocks_next : blocking_behind store history set m front ≡ Some (place + 1) = e ∙ ap Some by_is in
        record {
          place = place;
          by_is = by_is;
          commit = found.0;
          there = found.1;
          another = of_kind (counts_keys store m) refl place found.0 found.1 (omega (arith, far.0)) blocks_next;
        }
      where
        here : unwrap_or (front_in rec m) 0 ≡ front
        here = ap (λ (o : Option ℕ). unwrap_or o 0) (own_front mounts rec m front is)

        of_kind : (own : Bool) → counts_keys store m ≡ own → (place : ℕ) (commit : Commit)
            → slice_get history place ≡ Some commit → front ≤ place
            → cond own (first_same (points_of store) history set m front) (first_after history m front)
            ≡ Some (place + 1)
            → commit.handle ≢ set.handle
        of_kind false whole place commit there le blocks = λ own.
            let touched : touches m commit ≡ true = there-behind (touches m) history front place commit blocks there in
            omega (arith, covers place m commit there own touched whole, here, le)
        of_kind true key place commit there le blocks = λ own.
            let other : is_by set.handle commit ≡ false = by-another (points_of store) m set.handle commit (map.entries set.changes) (there-behind (changes_same (points_of store) set m) history front place commit blocks there) in
            let same : is_by set.handle commit ≡ true = eq-eqb set.handle commit.handle (sym own) in
            absurd cc

pub blocked_by_another : {F : Type 0} (formats : Formats) (lock : Place Told) (plan : Plan F) (old new : HandleValue)
    (set : Prepared) (mount : Name) (by front : ℕ) → IsHandle lock plan old
    → IsPrepared formats plan.mounted old.number (record_of old.rec) set
    → (done : IsDone formats plan.mounted old new set (Err (fault.Conflict mount by front)))
    → IsAnothers old.number (commits_of done.found) by
blocked_by_another formats lock plan old new set mount by front is prepared done =
    let store = store_at plan.mounted in
    let history = commits_of done.found in
    let m : ℕ = done.judged.0 in
    let blocked : conflict store history (prepared_of set) ≡ Some (late.Conflict m by) = is_blocked m by formats store history (replay store.start history) (prepared_of set) done.judged.3 in
    let handle : (prepared_of set).handle ≡ old.number = ap (λ (s : Set). s.handle) prepared.made.is in
    let covers : Cover store old.number history (front_in (record_of old.rec)) = cover-seen store old.number old.seen done.found (front_in (record_of old.rec)) done.seen (done.own ∙ is.own) is.covers in
    subst (λ n. IsAnothers n history by) handle
    (another store history (prepared_of set) (record_of old.rec) (involved_in (points_of store) prepared.parent) m by (ap (λ (s : Set). s.fronts) prepared.made.is)
    (subst (λ n. Cover store n history (front_in (record_of old.rec))) (sym handle) covers) (blocked_at store history (prepared_of set) (prepared_of set).touched m by blocked))
