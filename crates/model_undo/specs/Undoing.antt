-- Taking a commit back: its names set to what they had before it, and the later commits that stand in the way. (This
-- project's own.)
use Rattle.std.specs.Prelude.{◌≡◌, ℕ, ◌+◌, ◌-◌, ◌==◌, ◌<◌, ◌≤◌, Bool, if◌then◌else◌, is_some, List, [], ◌∷◌, length, take, drop, map as over, slice_get, Option, Some, None}
use Rattle.std.specs.FinMap as map
use Rattle.std.specs.FinMap.{find}
use Rattle.std.specs.Option.{option_map, option_map_or, option_or}
use Rattle.general_words.specs.Searches.{first_some}
use Rattle.model_names.specs.Name.{Name}
use Rattle.model_names.specs.Order.{name_cmp}
use Rattle.model_maps.specs.KeyMap.{KeyMap}
use Rattle.model_history.specs.Changes.{Change}
use Rattle.model_history.specs.History.{Commit, replay}

-- ---- the inverse

-- the commit of a number: they are numbered from 1
abbrev pub commit_at : List Commit → ℕ → Option Commit
commit_at history number = if number == 0 then None else slice_get history (number - 1)

-- what it changes; where no commit has the number, nothing
abbrev pub changes_made : List Commit → ℕ → List Change
changes_made history number = option_map_or (λ commit. commit.changes) (commit_at history number) []

-- the change of the same name to what a map has there, an entry or a removal
abbrev pub turned_back : KeyMap → Change → Change
turned_back before change = (change.0, map.get before change.0)

-- the inverse of a commit: for each of its changes the name with what the commits before it left there
abbrev pub inverse : KeyMap → List Commit → ℕ → List Change
inverse start history number =
    over (turned_back (replay start (take (number - 1) history))) (changes_made history number)

-- ---- what stands in its way

-- a name is changed by some changes
abbrev pub is_changed : List Change → Name → Bool
is_changed changes name = is_some (find name_cmp name changes)

-- the first name of some changes that passes a test
abbrev pub first_name : (Name → Bool) → List Change → Option Name
first_name test changes = first_some (λ change. if test change.0 then Some change.0 else None) changes

-- of commits numbered from a number on the first with a name that passes a test, and its first such name
abbrev pub first_with : (Name → Bool) → ℕ → List Commit → Option (ℕ × Name)
first_with test number [] = None
first_with test number (commit ∷ commits) =
    option_or (option_map (λ name. (number, name)) (first_name test commit.changes)) (first_with test (number + 1) commits)

-- the first commit behind that of a number that changes one of its names, and the first such name of the later commit
abbrev pub overtaken : List Commit → ℕ → Option (ℕ × Name)
overtaken history number = first_with (is_changed (changes_made history number)) (number + 1) (drop number history)

-- the inverse is there: the commit is one of the history, and no later one changes one of its names
pub record IsThere (history : List Commit) (number : ℕ) : Type 0 where
  pub some : 1 ≤ number
  pub within : number ≤ length history
  pub latest : overtaken history number ≡ None

-- the same in places: a later commit changes a name of that of a number, the first such name in it, and no commit
-- between them changes one
pub record Overtakes (history : List Commit) (number by : ℕ) (name : Name) : Type 0 where
  pub commit : Commit
  pub stands : commit_at history by ≡ Some commit
  pub later : number < by
  pub first : first_name (is_changed (changes_made history number)) commit.changes ≡ Some name
  pub between : (at : ℕ) (other : Commit) → number < at → at < by → commit_at history at ≡ Some other
      → first_name (is_changed (changes_made history number)) other.changes ≡ None
