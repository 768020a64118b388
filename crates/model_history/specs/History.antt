-- The commits of an opening, one after the other: what they make of a map, which of them touch a mount, and what they
-- weigh. (This project's own.)
use Rattle.std.specs.Prelude.{ℕ, nat_eq, ◌+◌, Bool, not, ◌&&◌, List, [], ◌∷◌, length, filter, sum_by, drop, Option, Some, None}
use Rattle.std.specs.List.{list_any, position_from}
use Rattle.model_names.specs.Name.{Name}
use Rattle.model_names.specs.Order.{name_eq}
use Rattle.model_names.specs.Spelling.{spelling}
use Rattle.model_maps.specs.Entry.{Entry, meta_bytes}
use Rattle.model_maps.specs.KeyMap.{KeyMap}
use Rattle.model_history.specs.Changes.{Change, changed_by}

-- a commit: the number of the handle that made it, the numbers of the mounts that it touches, and its changes
pub record Commit : Type 0 where
  pub handle : ℕ
  pub touched : List ℕ
  pub changes : List Change

-- a map after all commits of a history
abbrev pub replay : KeyMap → List Commit → KeyMap
replay keys [] = keys
replay keys (commit ∷ commits) = replay (changed_by commit.changes keys) commits

-- a number is one of these
abbrev pub is_among : List ℕ → ℕ → Bool
is_among numbers n = list_any (nat_eq n) numbers

-- a commit touches a mount
abbrev pub touches : ℕ → Commit → Bool
touches mount commit = is_among commit.touched mount

-- commits are numbered from 1: the number of the first commit behind a front that touches a mount
abbrev pub first_after : List Commit → ℕ → ℕ → Option ℕ
first_after history mount front = position_from (touches mount) (front + 1) (drop front history)

-- a commit is that of a handle
abbrev pub is_by : ℕ → Commit → Bool
is_by handle commit = nat_eq handle commit.handle

-- it changes a name
abbrev pub changes_name : Name → Commit → Bool
changes_name name commit = list_any (λ change. name_eq name change.0) commit.changes

-- another handle made it, and it changes a name
abbrev pub changes_beside : Name → ℕ → Commit → Bool
changes_beside name handle commit = not (is_by handle commit) && changes_name name commit

-- the number of the first commit behind a front that another handle made and that changes a name
abbrev pub first_change_after : List Commit → Name → ℕ → ℕ → Option ℕ
first_change_after history name front handle =
    position_from (changes_beside name handle) (front + 1) (drop front history)

-- the commits of a handle
abbrev pub commits_by : ℕ → List Commit → List Commit
commits_by handle commits = filter (is_by handle) commits

-- what a change weighs beside its texts, and what a commit weighs beside its changes
abbrev pub change_weight : ℕ
change_weight = 16

abbrev pub commit_weight : ℕ
commit_weight = 64

-- the bytes of a new entry; a removal has none
abbrev pub entry_bytes : Option Entry → ℕ
entry_bytes None = 0
entry_bytes (Some entry) = length entry.value + meta_bytes entry.meta

-- the weight of a change: its own, and the bytes of its name's canonical spelling and of its new entry
abbrev pub weight_of_change : Change → ℕ
weight_of_change change = change_weight + length (spelling change.0) + entry_bytes change.1

-- the weight of a commit: its own, and that of its changes
abbrev pub weight_of_commit : Commit → ℕ
weight_of_commit commit = commit_weight + sum_by weight_of_change commit.changes

-- the weight of a history: that of its commits
abbrev pub history_weight : List Commit → ℕ
history_weight history = sum_by weight_of_commit history

-- the most that a history may weigh
abbrev pub heaviest_history : ℕ
heaviest_history = 67108864
