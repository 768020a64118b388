-- What a set of keys at a parent wants, against what its handle keeps. (After Elektra's kdbSet, which stores the mounts
-- whose keys changed.)
use Rattle.std.specs.Prelude.{ℕ, Bool, not, if◌then◌else◌, List, [], ◌∷◌, ◌++◌, length, filter, Option, None}
use Rattle.std.specs.FinMap as map
use Rattle.std.specs.Option.{option_map, unwrap_or}
use Rattle.key_set.specs.Same.{same_keys}
use Rattle.model_names.specs.Name.{Name}
use Rattle.model_maps.specs.KeyMap.{KeyMap, no_keys}
use Rattle.model_history.specs.Changes.{Change, Changes, difference}
use Rattle.model_history.specs.History.{Commit, is_among}
use Rattle.model_store.specs.Records.{Fronts, Record, record_of}
use Rattle.model_store.specs.Store.{Store, points_of}
use Rattle.set_split.specs.Involved.{involved_in}
use Rattle.set_split.specs.Parts.{owned_by, left_aside}

-- a prepared set: whose it is, how many commits of this handle there were, the mounts that its parent involves and
-- their fronts, the keys, the touched mounts, what changes, and how many keys no involved mount owns
pub record Prepared : Type 0 where
  pub handle : ℕ
  pub committed : ℕ
  pub involved : List ℕ
  pub fronts : Fronts
  pub keys : KeyMap
  pub touched : List ℕ
  pub changes : Changes
  pub aside : ℕ

-- what a record has of some mounts alone
abbrev pub only : List ℕ → Record → Record
only mounts rec = record { fetched = λ m. if is_among mounts m then rec.fetched m else None; committed = rec.committed }

-- what is wanted for a mount: the keys that it owns
abbrev pub wants : List Name → KeyMap → ℕ → KeyMap
wants points keys m = owned_by points m keys

-- what a record keeps of a mount
abbrev pub kept : Record → ℕ → KeyMap
kept rec m = unwrap_or (option_map (λ fetched. fetched.kept) (rec.fetched m)) no_keys

-- the front that a record has of a mount
abbrev pub front_in : Record → ℕ → Option ℕ
front_in rec m = option_map (λ fetched. fetched.front) (rec.fetched m)

-- a mount is touched where what is wanted for it isn't what is kept of it
abbrev pub differs : (ℕ → KeyMap) → (ℕ → KeyMap) → ℕ → Bool
differs before wanted m = not (same_keys (wanted m) (before m))

-- the changes of some mounts together; of two at one name that of the last mount stays
abbrev pub changes_of : (ℕ → KeyMap) → (ℕ → KeyMap) → List ℕ → List Change
changes_of before wanted [] = []
changes_of before wanted (m ∷ mounts) =
    changes_of before wanted mounts ++ map.entries (difference (before m) (wanted m))

abbrev pub changes_at : (ℕ → KeyMap) → (ℕ → KeyMap) → List ℕ → Changes
changes_at before wanted mounts = map.from_entries (changes_of before wanted mounts)

-- the set with a record of the involved mounts alone
abbrev pub prepared_by : List Name → ℕ → List ℕ → Record → KeyMap → ℕ → Prepared
prepared_by points handle involved rec keys aside =
    let touched = filter (differs (kept rec) (wants points keys)) involved in
    record {
      handle = handle;
      committed = rec.committed;
      involved = involved;
      fronts = front_in rec;
      keys = keys;
      touched = touched;
      changes = changes_at (kept rec) (wants points keys) touched;
      aside = aside;
    }

-- the set that a record makes of some keys at a parent
abbrev pub prepared : List Name → ℕ → Record → Name → KeyMap → Prepared
prepared points handle rec parent keys =
    prepared_by points handle (involved_in points parent) (only (involved_in points parent) rec) keys (length (map.entries (left_aside points parent keys)))

-- the set that fronts make in a history
abbrev pub set_of : Store → List Commit → ℕ → Fronts → Name → KeyMap → Prepared
set_of store history handle fronts parent keys =
    prepared (points_of store) handle (record_of store history handle fronts) parent keys
