-- What a handle has seen of each mount, and what it keeps of it. (This project's own.)
use Rattle.std.specs.Prelude.{◌≡◌, ℕ, ◌≤◌, Bool, false, if◌then◌else◌, List, length, take, drop, Option, Some, None}
use Rattle.std.specs.Option.{option_map}
use Rattle.model_maps.specs.KeyMap.{KeyMap}
use Rattle.model_history.specs.History.{Commit, commits_by, is_among, replay}
use Rattle.model_store.specs.Store.{Store, counts_keys, points_of}
use Rattle.set_split.specs.Parts.{owned_by}

-- for each mount the length of the history that the handle last saw of it: at its last get of the mount, or, where the
-- mount counts by its backend, with its last own commit that touched it, whichever is later; none where there was
-- neither
abbrev pub Fronts : Type 0
Fronts = ℕ → Option ℕ

-- a handle that has seen nothing
abbrev pub no_fronts : Fronts
no_fronts m = None

-- some mounts are seen up to a front, and the others as before
abbrev pub seen_at : List ℕ → ℕ → Fronts → Fronts
seen_at mounts front fronts m = if is_among mounts m then Some front else fronts m

-- all keys after the first commits, and where a handle counts by key also with its own later commits made on them
abbrev pub seen_from : Bool → KeyMap → List Commit → ℕ → ℕ → KeyMap
seen_from own start history handle front =
    if own then replay (replay start (take front history)) (commits_by handle (drop front history)) else replay start (take front history)

-- what a handle has of a mount at a front: the keys that the mount owns of these
abbrev pub kept_at : Store → List Commit → ℕ → ℕ → ℕ → KeyMap
kept_at store history handle m front =
    owned_by (points_of store) m (seen_from (counts_keys store m) store.start history handle front)

-- what a record has of a mount: the front, and the keys that are kept of it
pub record Fetched : Type 0 where
  pub front : ℕ
  pub kept : KeyMap

-- what a record has of each mount, and how many commits of its handle there were
pub record Record : Type 0 where
  pub fetched : ℕ → Option Fetched
  pub committed : ℕ

-- a record that has nothing
abbrev pub no_record : Record
no_record = record { fetched = λ m. None; committed = 0 }

-- what a record has of a mount that was seen up to a front
abbrev pub fetched_at : Store → List Commit → ℕ → ℕ → ℕ → Fetched
fetched_at store history handle m front = record { front = front; kept = kept_at store history handle m front }

-- the record of some fronts of a handle
abbrev pub record_of : Store → List Commit → ℕ → Fronts → Record
record_of store history handle fronts = record {
  fetched = λ m. option_map (fetched_at store history handle m) (fronts m);
  committed = length (commits_by handle history);
}

-- a record is that of some fronts of a handle, which lie within the history, and of mounts that aren't bad
pub record IsRecord (store : Store) (history : List Commit) (handle : ℕ) (fronts : Fronts) (rec : Record) : Type 0 where
  pub within : (m front : ℕ) → fronts m ≡ Some front → front ≤ length history
  pub good : (m front : ℕ) → fronts m ≡ Some front → store.is_bad m ≡ false
  pub is : (m : ℕ) → rec.fetched m ≡ (record_of store history handle fronts).fetched m
  pub count : rec.committed ≡ length (commits_by handle history)
