-- What the calls of a store do with what they keep: the history, the present map, what each record keeps, and the
-- prepared sets. (This project's own.)
use Rattle.std.specs.Prelude.{◌≡◌, ℕ, nat_eq, ◌+◌, Bool, true, ◌&&◌, if◌then◌else◌, List, [], ◌∷◌, ◌++◌, length, Option, Some, None}
use Rattle.std.specs.List.{list_all}
use Rattle.std.specs.Option.{option_eq, option_map}
use Rattle.model_names.specs.Name.{Name}
use Rattle.model_maps.specs.KeyMap.{KeyMap}
use Rattle.model_history.specs.Changes.{after}
use Rattle.model_history.specs.History as past
use Rattle.model_history.specs.History.{is_among}
use Rattle.model_store.specs.Store.{Store, Formats, counts_keys, points_of}
use Rattle.model_store.specs.Fitting.{Early}
use Rattle.model_store.specs.Records.{Fetched, Record, no_record}
use Rattle.model_store.specs.Sets.{Prepared, prepared, wants, front_in}
use Rattle.model_store.specs.Verdicts.{Late, Commits, IsEarly, IsLate}
use Rattle.model_store.specs.Events.{Event, Get, Prepare, Commit, Answer, Memory, Bad, Got, Refused, Ready, Judged, Failed, first_bad, got, put}
use Rattle.set_split.specs.Involved.{involved_in}

pub record Core : Type 0 where
  pub history : List past.Commit
  pub keys : KeyMap
  pub records : ℕ → Record
  pub sets : ℕ → Option Prepared

abbrev pub first_core : Store → Core
first_core store = record { history = []; keys = store.start; records = λ r. no_record; sets = λ p. None }

-- a record that keeps some keys of some mounts from a front on, and of the others what it kept
abbrev pub keeping : List ℕ → ℕ → (ℕ → KeyMap) → Record → Record
keeping mounts front keys rec = record {
  fetched = λ m. if is_among mounts m then Some (record { front = front; kept = keys m }) else rec.fetched m;
  committed = rec.committed;
}

-- what a record has of a mount that its handle's commit touched: what was wanted there, from the commit's number on; of
-- a mount by key, from the front on that it has
abbrev pub kept_from : Bool → ℕ → KeyMap → Option Fetched → Option Fetched
kept_from by_key number keys fetched =
    if by_key then option_map (λ had. record { front = had.front; kept = keys }) fetched else Some (record { front = number; kept = keys })

-- a record after its handle's commit of a number, with what was wanted for each touched mount
abbrev pub storing : Store → List ℕ → ℕ → (ℕ → KeyMap) → Record → Record
storing store mounts number keys rec = record {
  fetched = λ m. if is_among mounts m then kept_from (counts_keys store m) number (keys m) (rec.fetched m) else rec.fetched m;
  committed = rec.committed + 1;
}

-- a prepared set was made for this handle, with the fronts that its record still has of the involved mounts, and the
-- handle has committed nothing since
abbrev pub accepts : Record → ℕ → Prepared → Bool
accepts rec handle set =
    nat_eq handle set.handle && (nat_eq rec.committed set.committed && list_all (λ m. option_eq nat_eq (front_in rec m) (set.fronts m)) set.involved)

pub record GetMade (store : Store) (core : Core) (r : ℕ) (parent : Name) (front : ℕ) (keys : KeyMap) (next : Core) : Type 0 where
  pub good : first_bad store parent ≡ None
  pub front_is : front ≡ length core.history
  pub keys_are : keys ≡ got store core.keys r parent
  pub next_is : next
      ≡ record core { records = put r (keeping (involved_in (points_of store) parent) (length core.history) (wants (points_of store) core.keys) (core.records r)) core.records }

-- the set that the record of a handle makes
abbrev pub set_made : Store → Core → ℕ → Name → KeyMap → Prepared
set_made store core r parent keys = prepared (points_of store) r (core.records r) parent keys

pub record RefusalMade (formats : Formats) (store : Store) (core : Core) (r : ℕ) (parent : Name) (keys : KeyMap) (why : Early) (next : Core) : Type 0 where
  pub early : IsEarly formats store (set_made store core r parent keys) (Some why)
  pub next_is : next ≡ core

pub record PreparationMade (formats : Formats) (store : Store) (core : Core) (r p : ℕ) (parent : Name) (keys : KeyMap) (next : Core) : Type 0 where
  pub early : IsEarly formats store (set_made store core r parent keys) None
  pub next_is : next ≡ record core { sets = put p (Some (set_made store core r parent keys)) core.sets }

-- a commit joins the history, its changes are made, and the record keeps of the touched mounts what was wanted
abbrev pub core_after : Store → Core → ℕ → Prepared → Late → Core
core_after store core r set (Commits commit aside) = record {
  history = core.history ++ commit ∷ [];
  keys = after core.keys set.changes;
  records = put r (storing store set.touched (length core.history + 1) (wants (points_of store) set.keys) (core.records r)) core.records;
  sets = core.sets;
}
core_after store core r set late = core

pub record JudgementMade (formats : Formats) (store : Store) (core : Core) (r p front : ℕ) (late : Late) : Type 0 where
  pub set : Prepared
  pub is_set : core.sets p ≡ Some set
  pub accepted : accepts (core.records r) r set ≡ true
  pub front_is : front ≡ length core.history
  pub late_is : IsLate formats store core.history core.keys set late

pub record CommitMade (formats : Formats) (store : Store) (core : Core) (r p front : ℕ) (late : Late) (next : Core) : Type 0 where
  pub judged : JudgementMade formats store core r p front late
  pub next_is : next ≡ core_after store core r judged.set late

pub record FailureMade (formats : Formats) (store : Store) (core : Core) (r p front : ℕ) (next : Core) : Type 0 where
  pub commit : past.Commit
  pub aside : ℕ
  pub judged : JudgementMade formats store core r p front (Commits commit aside)
  pub next_is : next ≡ core

-- what each call does with a core
abbrev pub Made : Formats → Store → Core → Event → Answer → Core → Type 0
Made formats store core (Get r parent) Memory next = next ≡ core
Made formats store core (Get r parent) (Bad m) next = (first_bad store parent ≡ Some m) × (next ≡ core)
Made formats store core (Get r parent) (Got front keys) next = GetMade store core r parent front keys next
Made formats store core (Prepare r p parent keys) Memory next = next ≡ core
Made formats store core (Prepare r p parent keys) (Refused why) next =
    RefusalMade formats store core r parent keys why next
Made formats store core (Prepare r p parent keys) Ready next = PreparationMade formats store core r p parent keys next
Made formats store core (Commit r p) Memory next = next ≡ core
Made formats store core (Commit r p) (Judged front late) next = CommitMade formats store core r p front late next
Made formats store core (Commit r p) (Failed front) next = FailureMade formats store core r p front next
Made formats store core event answer next = ⊥
