-- What the answers to events mean: everything is judged anew by the history, the fronts of the handle, and what was
-- asked. (This project's own.)
use Rattle.std.specs.Prelude.{◌≡◌, ℕ, ◌+◌, List, [], ◌∷◌, ◌++◌, length, Option, Some, None}
use Rattle.model_names.specs.Name.{Name}
use Rattle.model_maps.specs.KeyMap.{KeyMap}
use Rattle.model_history.specs.History as past
use Rattle.model_history.specs.History.{replay}
use Rattle.model_store.specs.Store.{Store, Formats, by_backend, points_of}
use Rattle.model_store.specs.Fitting.{Early}
use Rattle.model_store.specs.Records.{Fronts, no_fronts, seen_at}
use Rattle.model_store.specs.Sets.{Prepared, set_of}
use Rattle.model_store.specs.Verdicts.{Late, Commits, IsEarly, IsLate}
use Rattle.model_store.specs.Events.{Event, Get, Prepare, Commit, Answer, Memory, Bad, Got, Refused, Ready, Judged, Failed, first_bad, got, put}
use Rattle.set_split.specs.Involved.{involved_in}

-- what was asked with a prepared set: whose it is, the length of the history and the fronts then, the parent and the
-- keys
pub record Asked : Type 0 where
  pub handle : ℕ
  pub found : ℕ
  pub fronts : Fronts
  pub parent : Name
  pub keys : KeyMap

-- the history, the fronts of each handle, and what was asked with each set
pub record World : Type 0 where
  pub history : List past.Commit
  pub fronts : ℕ → Fronts
  pub asked : ℕ → Option Asked

abbrev pub first_world : World
first_world = record { history = []; fronts = λ r. no_fronts; asked = λ p. None }

-- the present map
abbrev pub present : Store → World → KeyMap
present store world = replay store.start world.history

-- a get shows the present map, and the handle has then seen the whole history of the involved mounts
pub record Gets (store : Store) (world : World) (r : ℕ) (parent : Name) (front : ℕ) (keys : KeyMap) (next : World) : Type 0 where
  pub good : first_bad store parent ≡ None
  pub front_is : front ≡ length world.history
  pub keys_are : keys ≡ got store (present store world) r parent
  pub next_is : next
      ≡ record world { fronts = put r (seen_at (involved_in (points_of store) parent) (length world.history) (world.fronts r)) world.fronts }

-- the set of a handle at a parent, now
abbrev pub set_now : Store → World → ℕ → Name → KeyMap → Prepared
set_now store world r parent keys = set_of store world.history r (world.fronts r) parent keys

pub record Refuses (formats : Formats) (store : Store) (world : World) (r : ℕ) (parent : Name) (keys : KeyMap) (why : Early) (next : World) : Type 0 where
  pub early : IsEarly formats store (set_now store world r parent keys) (Some why)
  pub next_is : next ≡ world

pub record Prepares (formats : Formats) (store : Store) (world : World) (r p : ℕ) (parent : Name) (keys : KeyMap) (next : World) : Type 0 where
  pub early : IsEarly formats store (set_now store world r parent keys) None
  pub next_is : next
      ≡ record world { asked = put p (Some (record { handle = r; found = length world.history; fronts = world.fronts r; parent = parent; keys = keys })) world.asked }

-- a commit joins the history, and its handle has then seen it of the mounts that it touches and that count by their
-- backend; any other verdict changes nothing
abbrev pub world_after : Store → World → ℕ → Late → World
world_after store world r (Commits commit aside) = record {
  history = world.history ++ commit ∷ [];
  fronts = put r (seen_at (by_backend store commit.touched) (length world.history + 1) (world.fronts r)) world.fronts;
  asked = world.asked;
}
world_after store world r late = world

-- what was asked is judged by the present history and the present fronts
pub record Judges (formats : Formats) (store : Store) (world : World) (r p front : ℕ) (late : Late) : Type 0 where
  pub asked : Asked
  pub was_asked : world.asked p ≡ Some asked
  pub front_is : front ≡ length world.history
  pub early : IsEarly formats store (set_now store world r asked.parent asked.keys) None
  pub late_is : IsLate formats store world.history (present store world) (set_now store world r asked.parent asked.keys) late

-- a disk fails only in the place of a commit, and then nothing changes
pub record Fails (formats : Formats) (store : Store) (world : World) (r p front : ℕ) (next : World) : Type 0 where
  pub commit : past.Commit
  pub aside : ℕ
  pub judged : Judges formats store world r p front (Commits commit aside)
  pub next_is : next ≡ world

abbrev pub Meant : Formats → Store → World → Event → Answer → World → Type 0
Meant formats store world (Get r parent) Memory next = next ≡ world
Meant formats store world (Get r parent) (Bad m) next = (first_bad store parent ≡ Some m) × (next ≡ world)
Meant formats store world (Get r parent) (Got front keys) next = Gets store world r parent front keys next
Meant formats store world (Prepare r p parent keys) Memory next = next ≡ world
Meant formats store world (Prepare r p parent keys) (Refused why) next =
    Refuses formats store world r parent keys why next
Meant formats store world (Prepare r p parent keys) Ready next = Prepares formats store world r p parent keys next
Meant formats store world (Commit r p) Memory next = next ≡ world
Meant formats store world (Commit r p) (Judged front late) next =
    Judges formats store world r p front late × (next ≡ world_after store world r late)
Meant formats store world (Commit r p) (Failed front) next = Fails formats store world r p front next
Meant formats store world event answer next = ⊥
