-- The commit that blocks a mount is another handle's: by its backend an own commit moves the front, and by key own
-- commits are passed over.
use Rattle.std.proofs.Common.{◌≡◌, ℕ, ◌+◌, ◌-◌, ◌≤◌, Bool, true, false, cond, not, ◌&&◌, ◌||◌, nat_eq, nat_lt, List, [], ◌∷◌, ◌++◌, drop, length, slice_get, Option, Some, None, refl, sym, ap, subst, ◌∙◌, arith, eqb-true, eq-eqb}
use Rattle.std.specs.List.{list_any, position_from}
use Rattle.std.specs.Option.{option_and_then}
use Rattle.std.proofs.lemmas.Bool.{ltb-true, ltb-false}
use Rattle.std.proofs.lemmas.Option.{slice_get_within}
use Rattle.general_words.proofs.Lists.{some_is}
use Rattle.general_words.proofs.Places.{before-last, at-last}
use Rattle.model_history.specs.Changes.{Change}
use Rattle.model_history.specs.History as past
use Rattle.model_history.specs.History.{changes_beside, changes_name, is_among, is_by, touches, first_after, replay}
use Rattle.model_history.proofs.HistoryLemmas.{behind, first_after-behind, first_after-there, position-from, position-passes}
use Rattle.model_names.specs.Name.{Name}
use Rattle.std.specs.FinMap as map
use Rattle.model_store.specs.Events.{Event, Get, Prepare, Commit, Answer, Memory, Bad, Got, Refused, Ready, Judged, Failed, put}
use Rattle.model_store.specs.Promise.{Runs}
use Rattle.model_store.specs.Records.{Fronts, seen_at}
use Rattle.model_store.specs.Sets.{Prepared}
use Rattle.model_store.specs.Store.{Store, Formats, by_backend, counts_keys, points_of}
use Rattle.model_store.specs.Verdicts.{Late, Same, Conflict, TooLarge, Invalid, DatabaseFull, HistoryFull, Commits, blocking, blocking_behind, changes_same, first_same}
use Rattle.model_store.specs.Worlds.{World, first_world, Meant, Judges, set_now, world_after}
use Rattle.model_store.proofs.Judged.{is_committed}
use Rattle.model_store.proofs.Members.{is_among-filter}
use Rattle.set_split.specs.Involved.{involved_in, owns}

-- ---- by keys

-- what is found behind a front passes the test
pub there-behind : {A : Type 0} (test : A → Bool) (xs : List A) (front number : ℕ) (x : A)
    → position_from test (front + 1) (drop front xs) ≡ Some (number + 1) → slice_get xs number ≡ Some x → test x ≡ true
there-behind test xs front number x e there =
    let le : front ≤ number = omega (arith, position-from test (front + 1) (drop front xs) (number + 1) e) in
    let at : front + (number - front) ≡ number = omega (arith, le) in
    let is : number + 1 ≡ front + 1 + (number - front) = omega (arith, le) in
    position-passes test (front + 1) (drop front xs) (number + 1) (number - front) x e is (behind xs front (number - front) ∙ ap (slice_get xs) at ∙ there)

-- a commit that changes the same as a set is another handle's
pub by-another : (points : List Name) (m handle : ℕ) (commit : past.Commit) (changes : List Change)
    → list_any (λ (change : Change). owns points m change.0 && changes_beside change.0 handle commit) changes ≡ true
    → is_by handle commit ≡ false
by-another points m handle commit [] e = absurd cc
by-another points m handle commit (change ∷ changes) e =
    by (owns points m change.0) (is_by handle commit) refl (by-another points m handle commit changes) e
  where
    by : (mine own : Bool) → is_by handle commit ≡ own
        → (list_any (λ (change : Change). owns points m change.0 && changes_beside change.0 handle commit) changes ≡ true → is_by handle commit ≡ false)
        → ((mine && (not own && changes_name change.0 commit)) || list_any (λ (change : Change). owns points m change.0 && changes_beside change.0 handle commit) changes)
        ≡ true
        → is_by handle commit ≡ false
    by mine false is rest h = is
    by true true is rest h = rest h
    by false true is rest h = rest h

-- ---- by the backend

-- no own commit behind a front touches a mount that counts by its backend
abbrev SeesOwn : Store → List past.Commit → (ℕ → Fronts) → Type 0
SeesOwn store history fronts =
    (r m front at : ℕ) (commit : past.Commit) → counts_keys store m ≡ false → fronts r m ≡ Some front → slice_get history at ≡ Some commit → front ≤ at → touches m commit ≡ true → commit.handle ≡ r → ⊥

-- a get sees the whole history
seen-all : (store : Store) (history : List past.Commit) (fronts : ℕ → Fronts) (r : ℕ) (mounts : List ℕ)
    → SeesOwn store history fronts → SeesOwn store history (put r (seen_at mounts (length history) (fronts r)) fronts)
seen-all store history fronts r mounts h = λ q m front at commit backend is there le on own.
    elim (nat_eq q r) as (λ b. nat_eq q r ≡ b → (cond b (seen_at mounts (length history) (fronts r)) (fronts q)) m ≡ Some front → ⊥) [
      | true ↦ λ same e. elim (is_among mounts m) as (λ b. cond b (Some (length history)) (fronts r m) ≡ Some front → ⊥) [
        | true ↦ λ k. omega (arith, some_is (length history) front k, slice_get_within history at commit there)
        | false ↦ λ k. h r m front at commit backend k there le on (own ∙ eqb-true q r same)
      ] e
      | false ↦ λ same e. h q m front at commit backend e there le on own
    ] refl is

-- and an own commit is seen of the mounts that it touches
seen-own : (store : Store) (history : List past.Commit) (fronts : ℕ → Fronts) (r : ℕ) (last : past.Commit)
    → last.handle ≡ r → SeesOwn store history fronts
    → SeesOwn store (history ++ last ∷ []) (put r (seen_at (by_backend store last.touched) (length history + 1) (fronts r)) fronts)
seen-own store history fronts r last made h = λ q m front at commit backend is there le on own.
    elim (nat_lt at (length history)) as (λ b. nat_lt at (length history) ≡ b → ⊥) [
      | true ↦ λ lt.
          let old : slice_get history at ≡ Some commit = before-last history last commit at there (ltb-true _ _ lt) in
          elim (nat_eq q r) as (λ b. nat_eq q r ≡ b → (cond b (seen_at (by_backend store last.touched) (length history + 1) (fronts r)) (fronts q)) m ≡ Some front → ⊥) [
            | true ↦ λ same e. elim (is_among (by_backend store last.touched) m) as (λ b. cond b (Some (length history + 1)) (fronts r m) ≡ Some front → ⊥) [
              | true ↦ λ k. omega (arith, some_is (length history + 1) front k, ltb-true _ _ lt)
              | false ↦ λ k. h r m front at commit backend k old le on (own ∙ eqb-true q r same)
            ] e
            | false ↦ λ same e. h q m front at commit backend e old le on own
          ] refl is
      | false ↦ λ past_end.
          let here = at-last history last commit at there (ltb-false _ _ past_end) in
          let same : nat_eq q r ≡ true = eq-eqb q r (sym own ∙ ap (λ (c : past.Commit). c.handle) (sym here.1) ∙ made) in
          let touched : is_among last.touched m ≡ true = ap (touches m) here.1 ∙ on in
          let among : is_among (by_backend store last.touched) m ≡ true =
          is_among-filter (λ n. not (counts_keys store n)) last.touched m ∙ ap (λ b. b && not (counts_keys store m)) touched ∙ ap not backend in
          let e : (cond (nat_eq q r) (seen_at (by_backend store last.touched) (length history + 1) (fronts r)) (fronts q)) m ≡ Some front = is in
          let f : seen_at (by_backend store last.touched) (length history + 1) (fronts r) m ≡ Some front = sym (ap (λ b. (cond b (seen_at (by_backend store last.touched) (length history + 1) (fronts r)) (fronts q)) m) same) ∙ e in
          let g : Some (length history + 1) ≡ Some front = sym (ap (λ b. cond b (Some (length history + 1)) (fronts r m)) among) ∙ f in
          omega (arith, some_is (length history + 1) front g, here.0)
    ] refl

module _ (formats : Formats) (store : Store) where
  abbrev Sees : World → Type 0
  Sees world = SeesOwn store world.history world.fronts

  same-world : (world next : World) → Sees world → next ≡ world → Sees next
  same-world world next h is = subst (λ (w : World). Sees w) (sym is) h

  judged : (world : World) (r p front : ℕ) (late : Late) → Judges formats store world r p front late → Sees world
      → Sees (world_after store world r late)
  judged world r p front (Same aside) j h = h
  judged world r p front (Conflict m by) j h = h
  judged world r p front (TooLarge m size) j h = h
  judged world r p front (Invalid violation risen) j h = h
  judged world r p front (DatabaseFull n) j h = h
  judged world r p front (HistoryFull n) j h = h
  judged world r p front (Commits commit aside) j h =
      let done = is_committed formats store world.history (replay store.start world.history) (set_now store world r j.asked.parent j.asked.keys) commit aside j.late_is in
      seen-own store world.history world.fronts r commit (ap (λ (c : past.Commit). c.handle) done.is) h

  step : (world : World) (event : Event) (answer : Answer) (next : World) → Meant formats store world event answer next
      → Sees world → Sees next
  step world (Get r parent) Memory next meant h = same-world world next h meant
  step world (Get r parent) (Bad m) next meant h = same-world world next h meant.1
  step world (Get r parent) (Got front keys) next meant h =
      subst (λ (w : World). Sees w) (sym meant.next_is) (seen-all store world.history world.fronts r (involved_in (points_of store) parent) h)
  step world (Get r parent) answer next meant h = absurd meant
  step world (Prepare r p parent keys) Memory next meant h = same-world world next h meant
  step world (Prepare r p parent keys) (Refused why) next meant h = same-world world next h meant.next_is
  step world (Prepare r p parent keys) Ready next meant h = subst (λ (w : World). Sees w) (sym meant.next_is) h
  step world (Prepare r p parent keys) answer next meant h = absurd meant
  step world (Commit r p) Memory next meant h = same-world world next h meant
  step world (Commit r p) (Judged front late) next meant h =
      subst (λ (w : World). Sees w) (sym meant.1) (judged world r p front late meant.0 h)
  step world (Commit r p) (Failed front) next meant h = same-world world next h meant.next_is
  step world (Commit r p) answer next meant h = absurd meant

  run : (calls : List (Event × Answer)) (world last : World) → Sees world → Runs (Meant formats store) world calls last
      → Sees last
  run [] world last h runs = same-world world last h runs
  run (call ∷ calls) world last h runs = run calls runs.0 last (step world call.0 call.1 runs.0 runs.1 h) runs.2

  pub others-block : (calls : List (Event × Answer)) (world : World)
      → Runs (Meant formats store) first_world calls world → (set : Prepared) (m number : ℕ) (commit : past.Commit)
      → set.fronts m ≡ world.fronts set.handle m
      → blocking store world.history set m ≡ Some (number + 1) → slice_get world.history number ≡ Some commit
      → commit.handle ≡ set.handle → ⊥
  others-block calls world runs set m number commit same blocks there = by (set.fronts m) refl blocks
    where
      sees : SeesOwn store world.history world.fronts
      sees = run calls first_world world (λ q n front at other backend is at_there le on own. absurd cc) runs

      of_kind : (front : ℕ) → set.fronts m ≡ Some front → (b : Bool) → counts_keys store m ≡ b
          → cond b (first_same (points_of store) world.history set m front) (first_after world.history m front)
          ≡ Some (number + 1)
          → commit.handle ≡ set.handle → ⊥
      of_kind front is false backend e own =
          sees set.handle m front number commit backend (sym same ∙ is) there (omega (arith, first_after-behind world.history m front (number + 1) e)) (first_after-there world.history m front number commit e there) own
      of_kind front is true key e own =
          let other : is_by set.handle commit ≡ false = by-another (points_of store) m set.handle commit (map.entries set.changes) (there-behind (changes_same (points_of store) set m) world.history front number commit e there) in
          let same_handle : is_by set.handle commit ≡ true = eq-eqb set.handle commit.handle (sym own) in
          absurd cc

      by : (o : Option ℕ) → set.fronts m ≡ o
          → option_and_then (blocking_behind store world.history set m) o ≡ Some (number + 1)
          → commit.handle ≡ set.handle → ⊥
      by None is e own = absurd cc
      by (Some front) is e own = of_kind front is (counts_keys store m) refl e own
