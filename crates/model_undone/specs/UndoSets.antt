-- The set that undoes a commit: that of a handle which has got a parent and made the inverse on its keys. (This
-- project's own.)
use Rattle.std.specs.Prelude.{◌≡◌, ℕ, ◌-◌, true, List, [], ◌∷◌, length, take, slice_get, Some, None}
use Rattle.std.specs.Option.{option_map_or, unwrap_or}
use Rattle.model_history.specs.Changes.{changed_by}
use Rattle.model_history.specs.History.{Commit, is_among, replay}
use Rattle.model_maps.specs.KeyMap.{KeyMap}
use Rattle.model_names.specs.Name.{Name}
use Rattle.model_names.specs.declared.namespaces.Namespace.TheVariants.{Cascading}
use Rattle.model_store.specs.Cores.{keeping}
use Rattle.model_store.specs.Legal.{IsLegalCommit}
use Rattle.model_store.specs.Records.{Record}
use Rattle.model_store.specs.Sets.{Prepared, prepared, wants}
use Rattle.model_store.specs.Store.{Store, Formats, points_of}
use Rattle.model_undo.specs.Undoing.{commit_at, inverse, overtaken}
use Rattle.set_split.specs.Involved.{involved_in}

-- the mounts that the commit of a number touched; where no commit has the number, none
abbrev pub touched_by : List Commit → ℕ → List ℕ
touched_by history number = option_map_or (λ commit. commit.touched) (commit_at history number) []

-- the parent of these mounts: the mountpoint of the one, and the cascading root where it isn't just one
abbrev pub cascading_root : Name
cascading_root = record { namespace = Cascading; parts = [] }

abbrev pub parent_over : List Name → List ℕ → Name
parent_over points [] = cascading_root
parent_over points (m ∷ []) = unwrap_or (slice_get points m) cascading_root
parent_over points (m ∷ n ∷ mounts) = cascading_root

-- the parent at which a commit is undone
abbrev pub undo_parent : Store → List Commit → ℕ → Name
undo_parent store history number = parent_over (points_of store) (touched_by history number)

-- keys with the inverse of a commit made on them
abbrev pub taken_back : Store → List Commit → ℕ → KeyMap → KeyMap
taken_back store history number keys = changed_by (inverse store.start history number) keys

-- the record of a handle that has got a parent behind the whole history
abbrev pub record_got : Store → List Commit → Name → Record → Record
record_got store history parent rec =
    keeping (involved_in (points_of store) parent) (length history) (wants (points_of store) (replay store.start history)) rec

-- the set that undoes a commit, of the keys that the get gave
abbrev pub undo_set : Store → List Commit → ℕ → Name → Record → KeyMap → ℕ → Prepared
undo_set store history handle parent rec keys number =
    prepared (points_of store) handle (record_got store history parent rec) parent (taken_back store history number keys)

-- keys have of each mount that a parent involves what the present map has of it
abbrev pub ShowPresent : Store → List Commit → Name → KeyMap → Type 0
ShowPresent store history parent keys =
    (m : ℕ) → is_among (involved_in (points_of store) parent) m ≡ true → wants (points_of store) keys m ≡ wants (points_of store) (replay store.start history) m

-- a commit can be undone from some keys at a parent: it is legal where it stands, none overtakes it, the parent
-- involves the mounts that it touched, and the keys show them as they are
pub record CanUndo (formats : Formats) (store : Store) (history : List Commit) (parent : Name) (keys : KeyMap) (number : ℕ) : Type 0 where
  pub commit : Commit
  pub stands : commit_at history number ≡ Some commit
  pub legal : IsLegalCommit formats store (replay store.start (take (number - 1) history)) commit
  pub latest : overtaken history number ≡ None
  pub reached : (m : ℕ) → is_among commit.touched m ≡ true → is_among (involved_in (points_of store) parent) m ≡ true
  pub shown : ShowPresent store history parent keys
