-- Each step of a core is a step of the world for which it stands, and so is every run.
use Rattle.std.proofs.Common.{◌≡◌, ℕ, ◌+◌, false, cond, nat_eq, List, [], ◌∷◌, ◌++◌, length, take, take_all, Option, Some, None, refl, sym, ap, subst, ◌∙◌, arith}
use Rattle.model_names.specs.Name.{Name}
use Rattle.model_maps.specs.KeyMap.{KeyMap}
use Rattle.model_history.specs.History as past
use Rattle.model_history.specs.History.{replay}
use Rattle.model_history.proofs.HistoryLemmas.{replay-append}
use Rattle.model_store.specs.Store.{Store, Formats, by_backend, points_of}
use Rattle.model_store.specs.Legal.{IsLegal, IsLegalCommit}
use Rattle.model_store.specs.Records.{Fronts, Record, IsRecord, record_of, seen_at}
use Rattle.model_store.specs.Sets.{Prepared, wants, set_of}
use Rattle.model_store.specs.Sound.{IsSound}
use Rattle.model_store.specs.Verdicts.{Late, Same, Conflict, TooLarge, Invalid, DatabaseFull, HistoryFull, Commits, IsEarly, IsLate, commit_of}
use Rattle.model_store.specs.Events.{Event, Get, Prepare, Commit, Answer, Memory, Bad, Got, Refused, Ready, Judged, Failed, if_bad, put}
use Rattle.model_store.specs.Worlds.{World, Asked, first_world, Judges, Meant, set_now, world_after}
use Rattle.model_store.specs.Cores.{Core, first_core, storing, GetMade, PreparationMade, JudgementMade, CommitMade, Made, core_after}
use Rattle.model_store.specs.Promise.{Runs, IsSet, Stands, IsOneOwner}
use Rattle.model_store.proofs.Committing.{backend_kept, beside_kept, good_at, key_kept, legal_commit}
use Rattle.model_store.proofs.Histories.{legal-more}
use Rattle.model_store.proofs.Judged.{HasPassed, has_passed, IsCommitted, is_committed}
use Rattle.model_store.proofs.Kept.{put-each, record-own, record-stays, record-moves, record-whole, set-stays, good_mount}
use Rattle.model_store.proofs.Members.{itself_number, nothing_at}
use Rattle.model_store.proofs.Present.{IsPresent, present_set}
use Rattle.model_store.proofs.Stored.{record-stores}
use Rattle.set_split.specs.Involved.{involved_in}

module _ (formats : Formats) (store : Store) where
  -- the core of a world: its history, the map after it, and the records of its fronts
  abbrev core_at : World → (ℕ → Option Prepared) → Core
  core_at world sets =
      record {
        history = world.history;
        keys = replay store.start world.history;
        records = λ r. record_of store world.history r (world.fronts r);
        sets = sets;
      }

  -- a core stands for its world
  record Known (world : World) (sets : ℕ → Option Prepared) : Type 0 where
    sound : IsSound formats store
    legal : IsLegal formats store world.history
    records : (r : ℕ)
        → IsRecord store world.history r (world.fronts r) (record_of store world.history r (world.fronts r))
    asked : (p : ℕ) → IsSet formats store world.history (world.asked p) (sets p)

  known : (world : World) (core : Core) → Stands formats store world core → Known world core.sets
  known world core st =
      record {
        sound = st.sound;
        legal = st.legal;
        records = λ r. record-own store world.history r (world.fronts r) (st.records r).within (st.records r).good;
        asked = st.sets;
      }

  whole : (world : World) (core : Core) → Stands formats store world core → core ≡ core_at world core.sets
  whole world core st =
      λ i. record { history = st.history i; keys = st.keys i; records = λ r. record-whole store world.history r (world.fronts r) (core.records r) (st.records r) i; sets = core.sets }

  stand : (world : World) (sets : ℕ → Option Prepared) → Known world sets
      → Stands formats store world (core_at world sets)
  stand world sets k =
      record { sound = k.sound; history = refl; keys = refl; legal = k.legal; records = k.records; sets = k.asked }

  -- the world goes on as the core does
  pub record Goes (world : World) (event : Event) (answer : Answer) (next : Core) : Type 0 where
    pub after : World
    pub meant : Meant formats store world event answer after
    pub stands : Stands formats store after next

  stays : (world : World) (sets : ℕ → Option Prepared) (next : Core) → Known world sets → next ≡ core_at world sets
      → Stands formats store world next
  stays world sets next k is = subst (λ (core : Core). Stands formats store world core) (sym is) (stand world sets k)

  -- ---- a get

  gets : (world : World) (sets : ℕ → Option Prepared) (r : ℕ) (parent : Name) (front : ℕ) (keys : KeyMap) (next : Core)
      → Known world sets → GetMade store (core_at world sets) r parent front keys next
      → Goes world (Get r parent) (Got front keys) next
  gets world sets r parent front keys next k made = record {
    after = moved;
    meant = record { good = made.good; front_is = made.front_is; keys_are = made.keys_are; next_is = refl };
    stands = subst (λ (core : Core). Stands formats store moved core) (sym made.next_is) (record {
      sound = k.sound;
      history = refl;
      keys = refl;
      legal = k.legal;
      sets = k.asked;
      records =
          put-each (λ n (f : Fronts) (rec : Record). IsRecord store world.history n f rec) r _ _ world.fronts (λ n. record_of store world.history n (world.fronts n))
          (record-moves store world.history r (world.fronts r) (record_of store world.history r (world.fronts r)) involved (length world.history) (wants (points_of store) (replay store.start world.history)) (k.records r) refl
          (λ m among. good_mount store m (nothing_at (if_bad store) involved m made.good among)) (λ m among. refl))
          (λ n other. k.records n);
    });
  }
    where
      involved : List ℕ
      involved = involved_in (points_of store) parent

      moved : World
      moved =
          record world { fronts = put r (seen_at (involved_in (points_of store) parent) (length world.history) (world.fronts r)) world.fronts }

  -- ---- a preparation

  prepares : (world : World) (sets : ℕ → Option Prepared) (r p : ℕ) (parent : Name) (keys : KeyMap) (next : Core)
      → Known world sets → PreparationMade formats store (core_at world sets) r p parent keys next
      → Goes world (Prepare r p parent keys) Ready next
  prepares world sets r p parent keys next k made = record {
    after = asked;
    meant = record { early = made.early; next_is = refl };
    stands = subst (λ (core : Core). Stands formats store asked core) (sym made.next_is) (record {
      sound = k.sound;
      history = refl;
      keys = refl;
      legal = k.legal;
      records = k.records;
      sets =
          put-each (λ n (a : Option Asked) (s : Option Prepared). IsSet formats store world.history a s) p _ _ world.asked sets
          (record { found = omega arith; within = (k.records r).within; is = as_found; passed = made.early })
          (λ n other. k.asked n);
    });
  }
    where
      asked : World
      asked =
          record world { asked = put p (Some (record { handle = r; found = length world.history; fronts = world.fronts r; parent = parent; keys = keys })) world.asked }

      -- the history that was found is the present one
      as_found : set_now store world r parent keys
          ≡ set_of store (take (length world.history) world.history) r (world.fronts r) parent keys
      as_found =
          ap (λ (found : List past.Commit). set_of store found r (world.fronts r) parent keys) (sym (take_all (length world.history) world.history (omega arith)))

  -- ---- a commit

  -- the set that a judgement is of is the present one
  is_present : (world : World) (sets : ℕ → Option Prepared) (r p front : ℕ) (late : Late) → Known world sets
      → (made : JudgementMade formats store (core_at world sets) r p front late)
      → IsPresent formats store world r p made.set
  is_present world sets r p front late k made =
      present_set formats store world r p made.set (subst (λ (s : Option Prepared). IsSet formats store world.history (world.asked p) s) made.is_set (k.asked p)) made.accepted

  judges : (world : World) (sets : ℕ → Option Prepared) (r p front : ℕ) (late : Late)
      → (made : JudgementMade formats store (core_at world sets) r p front late)
      → IsPresent formats store world r p made.set → Judges formats store world r p front late
  judges world sets r p front late made at = record {
    asked = at.asked;
    was_asked = at.was_asked;
    front_is = made.front_is;
    early = at.early;
    late_is = subst (λ (s : Prepared). IsLate formats store world.history (replay store.start world.history) s late) at.is made.late_is;
  }

  -- the core after the commit of a set stands for the world after it
  commits : (world : World) (sets : ℕ → Option Prepared) (r : ℕ) (parent : Name) (keys : KeyMap) (commit : past.Commit)
      (aside : ℕ) → Known world sets
      → IsEarly formats store (set_now store world r parent keys) None
      → IsLate formats store world.history (replay store.start world.history) (set_now store world r parent keys) (Commits commit aside)
      → Stands formats store (world_after store world r (Commits commit aside)) (core_after store (core_at world sets) r (set_now store world r parent keys) (Commits commit aside))
  commits world sets r parent keys commit aside k early late =
      subst (λ (c : past.Commit). Stands formats store (world_after store world r (Commits c aside)) (core_after store (core_at world sets) r set (Commits c aside))) (sym done.is) (record {
        sound = k.sound;
        history = refl;
        keys = sym (replay-append store.start world.history (made ∷ []));
        legal = record { each = legal-more formats store store.start world.history made k.legal.each legal; not_full = done.not_full };
        records = put-each (λ n (f : Fronts) (rec : Record). IsRecord store (world.history ++ made ∷ []) n f rec) r _ _ world.fronts (λ n. record_of store world.history n (world.fronts n)) own others;
        sets = λ p. set-stays store formats world.history (made ∷ []) (world.asked p) (sets p) (k.asked p);
      })
    where
      set : Prepared
      set = set_now store world r parent keys

      passed : HasPassed formats store (set_now store world r parent keys)
      passed = has_passed formats store (set_now store world r parent keys) early

      done : IsCommitted formats store world.history (replay store.start world.history) (set_now store world r parent keys) commit
      done =
          is_committed formats store world.history (replay store.start world.history) (set_now store world r parent keys) commit aside late

      made : past.Commit
      made = commit_of (set_now store world r parent keys)

      legal : IsLegalCommit formats store (replay store.start world.history) (commit_of (set_now store world r parent keys))
      legal =
          legal_commit formats store world.history r (world.fronts r) parent keys (k.records r) k.legal.each passed done.free k.sound commit done

      own : IsRecord store (world.history ++ commit_of (set_now store world r parent keys) ∷ []) r (seen_at (by_backend store (set_now store world r parent keys).touched) (length world.history + 1) (world.fronts r))
          (storing store (set_now store world r parent keys).touched (length world.history + 1) (wants (points_of store) keys) (record_of store world.history r (world.fronts r)))
      own =
          record-stores store world.history (commit_of (set_now store world r parent keys)) r (world.fronts r) (record_of store world.history r (world.fronts r)) (wants (points_of store) keys) (k.records r) (itself_number r)
          (good_at formats store world.history r (world.fronts r) parent keys (k.records r) k.legal.each passed done.free)
          (backend_kept formats store world.history r (world.fronts r) parent keys (k.records r) k.legal.each passed done.free)
          (key_kept formats store world.history r (world.fronts r) parent keys (k.records r) k.legal.each passed done.free)
          (beside_kept formats store world.history r (world.fronts r) parent keys (k.records r).within legal)

      others : (n : ℕ) → nat_eq n r ≡ false
          → IsRecord store (world.history ++ commit_of (set_now store world r parent keys) ∷ []) n (world.fronts n) (record_of store world.history n (world.fronts n))
      others n other =
          record-stays store world.history (commit_of (set_now store world r parent keys) ∷ []) n (world.fronts n) (record_of store world.history n (world.fronts n)) (k.records n)
          (ap (λ b. cond b (commit_of (set_now store world r parent keys) ∷ []) []) other)

  unchanged : (world : World) (sets : ℕ → Option Prepared) (r p front : ℕ) (late : Late) (next : Core)
      → Known world sets → (made : JudgementMade formats store (core_at world sets) r p front late)
      → next ≡ core_at world sets → world ≡ world_after store world r late
      → Goes world (Commit r p) (Judged front late) next
  unchanged world sets r p front late next k made is same = record {
    after = world;
    meant = (judges world sets r p front late made (is_present world sets r p front late k made), same);
    stands = stays world sets next k is;
  }

  judged : (world : World) (sets : ℕ → Option Prepared) (r p front : ℕ) (late : Late) (next : Core) → Known world sets
      → CommitMade formats store (core_at world sets) r p front late next
      → Goes world (Commit r p) (Judged front late) next
  judged world sets r p front (Same aside) next k made =
      unchanged world sets r p front (Same aside) next k made.judged made.next_is refl
  judged world sets r p front (Conflict m by) next k made =
      unchanged world sets r p front (Conflict m by) next k made.judged made.next_is refl
  judged world sets r p front (TooLarge m size) next k made =
      unchanged world sets r p front (TooLarge m size) next k made.judged made.next_is refl
  judged world sets r p front (Invalid violation risen) next k made =
      unchanged world sets r p front (Invalid violation risen) next k made.judged made.next_is refl
  judged world sets r p front (DatabaseFull n) next k made =
      unchanged world sets r p front (DatabaseFull n) next k made.judged made.next_is refl
  judged world sets r p front (HistoryFull n) next k made =
      unchanged world sets r p front (HistoryFull n) next k made.judged made.next_is refl
  judged world sets r p front (Commits commit aside) next k made =
      let at = is_present world sets r p front (Commits commit aside) k made.judged in
      let meant = judges world sets r p front (Commits commit aside) made.judged at in
      let late_is : IsLate formats store world.history (replay store.start world.history) (set_now store world r at.asked.parent at.asked.keys) (Commits commit aside) =
      subst (λ (s : Prepared). IsLate formats store world.history (replay store.start world.history) s (Commits commit aside)) at.is made.judged.late_is in
      record {
        after = world_after store world r (Commits commit aside);
        meant = (meant, refl);
        stands = subst (λ (core : Core). Stands formats store (world_after store world r (Commits commit aside)) core)
            (sym (made.next_is ∙ ap (λ (s : Prepared). core_after store (core_at world sets) r s (Commits commit aside)) at.is))
            (commits world sets r at.asked.parent at.asked.keys commit aside k at.early late_is);
      }

  -- ---- every event, and every list of events

  step : (world : World) (sets : ℕ → Option Prepared) (event : Event) (answer : Answer) (next : Core) → Known world sets
      → Made formats store (core_at world sets) event answer next → Goes world event answer next
  step world sets (Get r parent) Memory next k made =
      record { after = world; meant = refl; stands = stays world sets next k made }
  step world sets (Get r parent) (Bad m) next k made =
      record { after = world; meant = (made.0, refl); stands = stays world sets next k made.1 }
  step world sets (Get r parent) (Got front keys) next k made = gets world sets r parent front keys next k made
  step world sets (Get r parent) answer next k made = absurd made
  step world sets (Prepare r p parent keys) Memory next k made =
      record { after = world; meant = refl; stands = stays world sets next k made }
  step world sets (Prepare r p parent keys) (Refused why) next k made =
      record {
        after = world;
        meant = record { early = made.early; next_is = refl };
        stands = stays world sets next k made.next_is;
      }
  step world sets (Prepare r p parent keys) Ready next k made = prepares world sets r p parent keys next k made
  step world sets (Prepare r p parent keys) answer next k made = absurd made
  step world sets (Commit r p) Memory next k made =
      record { after = world; meant = refl; stands = stays world sets next k made }
  step world sets (Commit r p) (Judged front late) next k made = judged world sets r p front late next k made
  step world sets (Commit r p) (Failed front) next k made = record {
    after = world;
    meant = record { commit = made.commit; aside = made.aside; judged = judges world sets r p front (Commits made.commit made.aside) made.judged (is_present world sets r p front (Commits made.commit made.aside) k made.judged); next_is = refl };
    stands = stays world sets next k made.next_is;
  }
  step world sets (Commit r p) answer next k made = absurd made

  pub follows : (world : World) (core : Core) (event : Event) (answer : Answer) (next : Core)
      → Stands formats store world core → Made formats store core event answer next → Goes world event answer next
  follows world core event answer next st made =
      step world core.sets event answer next (known world core st) (subst (λ (c : Core). Made formats store c event answer next) (whole world core st) made)

  -- what a run leads to
  record Reaches (world : World) (calls : List (Event × Answer)) (core : Core) : Type 0 where
    last : World
    meant : Runs (Meant formats store) world calls last
    stands : Stands formats store last core

  all_follow : (calls : List (Event × Answer)) (world : World) (core last : Core) → Stands formats store world core
      → Runs (Made formats store) core calls last → Reaches world calls last
  all_follow [] world core last st runs =
      record { last = world; meant = refl; stands = subst (λ (c : Core). Stands formats store world c) (sym runs) st }
  all_follow (call ∷ calls) world core last st runs =
      let one = follows world core call.0 call.1 runs.0 st runs.1 in
      let rest = all_follow calls one.after runs.0 last one.stands runs.2 in
      record { last = rest.last; meant = (one.after, one.meant, rest.meant); stands = rest.stands }

  pub first_stands : IsSound formats store → Stands formats store first_world (first_core store)
  first_stands sound = record {
    sound = sound;
    history = refl;
    keys = refl;
    legal = record { each = tt; not_full = omega arith };
    records = λ r. record { within = λ m front e. absurd cc; good = λ m front e. absurd cc; is = λ m. refl; count = refl };
    sets = λ p. tt;
  }

  pub one_owner : IsSound formats store → (calls : List (Event × Answer)) (core : Core)
      → Runs (Made formats store) (first_core store) calls core → IsOneOwner formats store calls core
  one_owner sound calls core runs =
      let all = all_follow calls first_world (first_core store) core (first_stands sound) runs in record { world = all.last; meant = all.meant; stands = all.stands }
