-- The files of a store after a history: the file of each mount that a commit touches holds the text of its present
-- keys. (This project's own.)
use Rattle.std.specs.Prelude.{◌≡◌, ℕ, ◌≤◌, Bool, false, if◌then◌else◌, List, length, map as over, slice_get, Option, Some, None, option_and_then, bytes_eq, codes, nat_eq}
use Rattle.std.specs.FinMap as map
use Rattle.std.specs.FinMap.{FinMap}
use Rattle.std.specs.List.{list_any, position_from, starts_with}
use Rattle.std.specs.Option.{option_map, unwrap_or}
use Rattle.general_words.specs.Texts.{text_cmp}
use Rattle.kdb_outside.specs.FileName.{IsFileName}
use Rattle.kdb_outside.specs.Images.{Image}
use Rattle.model_maps.specs.KeyMap.{KeyMap}
use Rattle.model_history.specs.History.{Commit, replay, touches}
use Rattle.model_store.specs.Store.{Store, Formats, points_of, contents}
use Rattle.mount_table.specs.Table.{most_mounts}
use Rattle.mount_table.specs.declared.mounts.Mount.{Mount}
use Rattle.set_split.specs.Parts.{owned_by}

-- each mount has a file of its own
abbrev pub HaveOwnFiles : List Mount → Type 0
HaveOwnFiles mounts =
    (i j : ℕ) (one other : Mount) → slice_get mounts i ≡ Some one → slice_get mounts j ≡ Some other → one.file ≡ other.file → i ≡ j

-- mounts whose files an entry of a journal can hold: few enough, each with a file of its own, none of which is the
-- journal's
pub record HaveFiles (mounts : List Mount) : Type 0 where
  pub own : HaveOwnFiles mounts
  pub named : (i : ℕ) (mount : Mount) → slice_get mounts i ≡ Some mount → IsFileName mount.file
  pub free : (i : ℕ) (mount : Mount) → slice_get mounts i ≡ Some mount
      → starts_with nat_eq mount.file (codes "journal") ≡ false
  pub few : length mounts ≤ most_mounts

-- the mount whose file has a name
abbrev pub mount_with : List Mount → List ℕ → Option ℕ
mount_with mounts file = position_from (λ mount. bytes_eq mount.file file) 0 mounts

-- what the file of a mount holds of some keys: the text of those that the mount owns, joined with its shadow
abbrev pub text_of : Formats → Store → KeyMap → ℕ → Mount → List ℕ
text_of formats store keys m mount =
    formats.text mount.kind (contents store m mount (owned_by (points_of store) m keys))

-- some commit touches a mount
abbrev pub is_touched : ℕ → List Commit → Bool
is_touched m history = list_any (touches m) history

-- what a history stores in the file of a mount: nothing where no commit touches it
abbrev pub stored : Formats → Store → KeyMap → List Commit → ℕ → Option (List ℕ)
stored formats store start history m =
    if is_touched m history then option_map (text_of formats store (replay start history) m) (slice_get store.mounts m) else None

-- files after commits on a map: what is stored in the file of a mount, and every other file as it was
abbrev pub files_from : Formats → Store → KeyMap → Image → List Commit → Image
files_from formats store start files history file =
    unwrap_or (option_and_then (stored formats store start history) (mount_with store.mounts file)) (files file)

-- files after a history
abbrev pub files_after : Formats → Store → Image → List Commit → Image
files_after formats store files history = files_from formats store store.start files history

-- the names of the files of some mounts, each once
abbrev pub file_names : List Mount → FinMap text_cmp Unit
file_names mounts = map.from_entries (over (λ mount. (mount.file, tt)) mounts)

-- the names of the files of a store, in the order of their bytes: those that the head of its journal has
abbrev pub table_files : Store → List (List ℕ)
table_files store = map.keys (file_names store.mounts)
