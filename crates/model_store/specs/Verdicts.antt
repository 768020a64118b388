-- What comes of a set: the first of its refusals, nothing to do, or a commit. A relation, since which keys a format can
-- hold is one. (After Elektra's kdbSet, whose conflict is another's change since the own get; the order, the limits and
-- conflicts by key are this project's own.)
use Rattle.std.specs.Prelude.{◌≡◌, ◌⊎◌, ℕ, nat_lt, ◌+◌, Bool, true, not, ◌&&◌, if◌then◌else◌, List, [], ◌∷◌, ◌++◌, length, drop, slice_get, Option, Some, None, option_and_then}
use Rattle.std.specs.FinMap as map
use Rattle.std.specs.List.{AllByRecursion, list_any, position_from}
use Rattle.std.specs.Option.{option_map, option_or}
use Rattle.backend_files.specs.WholeFile.{longest_file}
use Rattle.general_words.specs.Saturated.{saturated}
use Rattle.general_words.specs.Searches.{first_some}
use Rattle.model_names.specs.Name.{Name}
use Rattle.model_maps.specs.KeyMap.{KeyMap, weight, heaviest_map}
use Rattle.model_history.specs.Changes.{after}
use Rattle.model_history.specs.History.{Commit, changes_beside, first_after, history_weight, heaviest_history}
use Rattle.model_specified.specs.declared.violations.Violation.{Violation}
use Rattle.mount_table.specs.declared.mounts.Mount.{Mount}
use Rattle.mounted_files.specs.Setting.{first_long_in}
use Rattle.set_split.specs.Involved.{owns}
use Rattle.set_split.specs.Parts.{owned_by}
use Rattle.model_store.specs.Store.{Store, Formats, contents, counts_keys, points_of}
use Rattle.model_store.specs.Fitting.{Early, NotFetched, ValueTooLong, NotStorable, too_heavy, too_long, bad_table, IsStorableAt, BreaksAtMount}
use Rattle.model_store.specs.Rules.{FirstBreach, KeepRules}
use Rattle.model_store.specs.Sets.{Prepared, wants}

-- an answer is what a step tells, and where it tells nothing something else holds of it
abbrev pub Follows : {A : Type 0} → Option A → Option A → Type 0 → Type 0
Follows (Some told) answer Otherwise = answer ≡ Some told
Follows None answer Otherwise = Otherwise

-- ---- before the history is asked

abbrev pub wanted_in : Store → Prepared → ℕ → KeyMap
wanted_in store set = wants (points_of store) set.keys

-- the first involved mount that the handle has not seen
abbrev pub if_unseen : ℕ → Option ℕ → Option Early
if_unseen m None = Some (NotFetched m)
if_unseen m (Some front) = None

abbrev pub not_fetched : Prepared → Option Early
not_fetched set = first_some (λ m. if_unseen m (set.fronts m)) set.involved

-- the first text that is too long, of the keys that an involved mount owns
abbrev pub long_value : Store → Prepared → Option Early
long_value store set =
    option_map (λ long. ValueTooLong long.0 long.1) (first_long_in (points_of store) set.involved set.keys)

-- what is refused before the formats are asked: a mount that wasn't fetched, a text that is too long, a file that is
-- too heavy
abbrev pub before_formats : Store → Prepared → Option Early
before_formats store set =
    option_or (not_fetched set) (option_or (long_value store set) (first_some (too_heavy store (wanted_in store set)) set.touched))

-- the first touched mount whose format can't hold what its file is to hold
pub record BreaksFirst (formats : Formats) (store : Store) (set : Prepared) (answer : Option Early) : Type 0 where
  pub before : List ℕ
  pub mount : ℕ
  pub behind : List ℕ
  pub stand : set.touched ≡ before ++ mount ∷ behind
  pub storable : AllByRecursion (IsStorableAt formats store (wanted_in store set)) before
  pub name : Name
  pub breaks : BreaksAtMount formats store (wanted_in store set) mount name
  pub is : answer ≡ Some (NotStorable mount name)

-- what is refused of files that their formats can hold: a text that is too long, and keys that make no table
abbrev pub behind_formats : Formats → Store → Prepared → Option Early
behind_formats formats store set =
    option_or (first_some (too_long formats store (wanted_in store set)) set.touched) (first_some (bad_table store (wanted_in store set)) set.touched)

-- what is told from the formats on: the first touched mount that breaks; or all can be stored, and what is told behind
-- that
abbrev pub FromFormats : Formats → Store → Prepared → Option Early → Type 0
FromFormats formats store set answer =
    BreaksFirst formats store set answer
    ⊎ (AllByRecursion (IsStorableAt formats store (wanted_in store set)) set.touched × (answer ≡ behind_formats formats store set))

-- the first refusal of a set, or none
abbrev pub IsEarly : Formats → Store → Prepared → Option Early → Type 0
IsEarly formats store set answer = Follows (before_formats store set) answer (FromFormats formats store set answer)

-- ---- blocking commits

-- a commit changes a name that a set changes of a mount, and another handle made it
abbrev pub changes_same : List Name → Prepared → ℕ → Commit → Bool
changes_same points set m commit =
    list_any (λ change. owns points m change.0 && changes_beside change.0 set.handle commit) (map.entries set.changes)

-- the first such commit behind a front
abbrev pub first_same : List Name → List Commit → Prepared → ℕ → ℕ → Option ℕ
first_same points history set m front = position_from (changes_same points set m) (front + 1) (drop front history)

-- the commit that blocks a mount of a set, by its front of the mount: the first behind it that touches the mount; of a
-- mount by key, the first of another handle behind it that changes a name which the set changes there
abbrev pub blocking_behind : Store → List Commit → Prepared → ℕ → ℕ → Option ℕ
blocking_behind store history set m front =
    if counts_keys store m then first_same (points_of store) history set m front else first_after history m front

abbrev pub blocking : Store → List Commit → Prepared → ℕ → Option ℕ
blocking store history set m = option_and_then (blocking_behind store history set m) (set.fronts m)

-- ---- what the history decides

-- no mount is touched, with the number of keys left aside; a commit blocks a mount; the file of a mount by key would be
-- too large after the set, with the weight of its keys or the length of its text; a key of a touched mount breaks a
-- rule after the set, with whether the matcher's count of refusals rose; the map after the set, or the history with it,
-- weighs too much; or the set is a commit, with the number of keys left aside
pub data Late : Type 0 where
  Same : ℕ → Late
  Conflict : ℕ → ℕ → Late
  TooLarge : ℕ → ℕ → Late
  Invalid : Violation → Bool → Late
  DatabaseFull : ℕ → Late
  HistoryFull : ℕ → Late
  Commits : Commit → ℕ → Late

-- the commit of a set
abbrev pub commit_of : Prepared → Commit
commit_of set = record { handle = set.handle; touched = set.touched; changes = map.entries set.changes }

abbrev pub if_untouched : List ℕ → ℕ → Option Late
if_untouched [] aside = Some (Same aside)
if_untouched (m ∷ mounts) aside = None

-- the lowest touched mount that a commit blocks
abbrev pub conflict_at : Store → List Commit → Prepared → ℕ → Option Late
conflict_at store history set m = option_map (Conflict m) (blocking store history set m)

abbrev pub conflict : Store → List Commit → Prepared → Option Late
conflict store history set = first_some (conflict_at store history set) set.touched

-- how much too large a file with some keys would be: the weight of the keys where they are too heavy, and else the
-- length of their text where that is too long
abbrev pub oversize : Formats → Mount → KeyMap → Option ℕ
oversize formats mount keys =
    if nat_lt heaviest_map (weight keys) then Some (saturated (weight keys)) else (
    if nat_lt longest_file (length (formats.text mount.kind keys)) then Some (length (formats.text mount.kind keys)) else None)

-- the file of a mount by key with what it is to hold of some keys. That of a mount by its backend holds what the set
-- wants, and was found small enough
abbrev pub too_large_file : Formats → Store → KeyMap → ℕ → Mount → Option Late
too_large_file formats store keys m mount =
    if mount.by_key then option_map (TooLarge m) (oversize formats mount (contents store m mount (owned_by (points_of store) m keys))) else None

abbrev pub too_large_at : Formats → Store → KeyMap → ℕ → Option Late
too_large_at formats store keys m = option_and_then (too_large_file formats store keys m) (slice_get store.mounts m)

-- the lowest touched mount by key whose file would be too large after the set
abbrev pub too_large : Formats → Store → KeyMap → Prepared → Option Late
too_large formats store keys set = first_some (too_large_at formats store (after keys set.changes)) set.touched

-- a key that a touched mount owns breaks a rule in the map after the set: the first violation
pub record BreaksRules (points : List Name) (keys : KeyMap) (set : Prepared) (answer : Late) : Type 0 where
  pub violation : Violation
  pub risen : Bool
  pub first : FirstBreach points set.touched (after keys set.changes) violation risen
  pub is : answer ≡ Invalid violation risen

-- the rules: a violation is the answer, and where there is none something else holds of it
abbrev pub Checks : List Name → KeyMap → Prepared → Late → Type 0 → Type 0
Checks points keys set answer Otherwise =
    BreaksRules points keys set answer ⊎ (KeepRules points set.touched (after keys set.changes) × Otherwise)

abbrev pub if_heavy : ℕ → Option Late
if_heavy n = if nat_lt heaviest_map n then Some (DatabaseFull (saturated n)) else None

abbrev pub if_full : ℕ → Option Late
if_full n = if nat_lt heaviest_history n then Some (HistoryFull (saturated n)) else None

-- what becomes of a set that passed, by the formats, the store, the history and the present map
abbrev pub IsLate : Formats → Store → List Commit → KeyMap → Prepared → Late → Type 0
IsLate formats store history keys set answer =
    Follows (if_untouched set.touched set.aside) (Some answer)
    (Follows (conflict store history set) (Some answer)
    (Follows (too_large formats store keys set) (Some answer)
    (Checks (points_of store) keys set answer
    (Follows (if_heavy (weight (after keys set.changes))) (Some answer)
    (Follows (if_full (history_weight (history ++ commit_of set ∷ []))) (Some answer)
    (answer ≡ Commits (commit_of set) set.aside))))))

-- a verdict that no refusal of a pattern can have changed: it is no violation that was found while the matcher's count
-- of refusals rose
abbrev pub is_certain : Late → Bool
is_certain (Same aside) = true
is_certain (Conflict m by) = true
is_certain (TooLarge m size) = true
is_certain (Invalid violation risen) = not risen
is_certain (DatabaseFull n) = true
is_certain (HistoryFull n) = true
is_certain (Commits commit aside) = true
