-- Which histories there can be. (This project's own.)
use Rattle.std.specs.Prelude.{◌≡◌, ◌≢◌, ℕ, ◌≤◌, true, false, List, [], ◌∷◌, Option, Some, None}
use Rattle.std.specs.FinMap as map
use Rattle.std.specs.FinMap.{find, is_sorted}
use Rattle.std.specs.List.{AllByRecursion}
use Rattle.std.specs.List.Sorted.{IsStrictlySortedBy}
use Rattle.std.specs.Ordering.{nat_cmp}
use Rattle.model_names.specs.Name.{Name}
use Rattle.model_names.specs.Order.{name_cmp}
use Rattle.model_maps.specs.Entry.{Entry}
use Rattle.model_maps.specs.KeyMap.{KeyMap, weight, heaviest_map}
use Rattle.model_history.specs.Changes.{Change, changed_by}
use Rattle.model_history.specs.History.{Commit, history_weight, heaviest_history}
use Rattle.mounted_files.specs.Setting.{long_text}
use Rattle.model_store.specs.Store.{Store, Formats, points_of, is_owned}
use Rattle.model_store.specs.Fitting.{Fits}
use Rattle.model_store.specs.Rules.{KeepRules}
use Rattle.set_split.specs.Involved.{owns}
use Rattle.set_split.specs.Parts.{owned_by}

-- some change is of a name that the mount owns
pub record HasChange (points : List Name) (changes : List Change) (mount : ℕ) : Type 0 where
  pub name : Name
  pub new : Option Entry
  pub found : find name_cmp name changes ≡ Some new
  pub owned : owns points mount name ≡ true

-- a commit on a map: it touches some mount; its mounts aren't bad and ascend; its names ascend, each is one that a
-- touched mount owns, and each touched mount has one; each change gives what the map has not, with no text that is too
-- long; and the map after it fits the files of the touched mounts, keeps the rules in them and isn't too heavy
pub record IsLegalCommit (formats : Formats) (store : Store) (before : KeyMap) (commit : Commit) : Type 0 where
  pub some : commit.touched ≢ []
  pub good : AllByRecursion (λ m. store.is_bad m ≡ false) commit.touched
  pub ascending : IsStrictlySortedBy nat_cmp commit.touched
  pub names : is_sorted name_cmp commit.changes ≡ true
  pub owned : (name : Name) (new : Option Entry) → find name_cmp name commit.changes ≡ Some new
      → is_owned (points_of store) commit.touched name ≡ true
  pub each : AllByRecursion (HasChange (points_of store) commit.changes) commit.touched
  pub differs : (name : Name) (new : Option Entry) → find name_cmp name commit.changes ≡ Some new
      → new ≢ map.get before name
  pub short : (name : Name) (new : Entry) → find name_cmp name commit.changes ≡ Some (Some new) → long_text new ≡ None
  pub fits : AllByRecursion (Fits formats store (λ m. owned_by (points_of store) m (changed_by commit.changes before))) commit.touched
  pub valid : KeepRules (points_of store) commit.touched (changed_by commit.changes before)
  pub light : weight (changed_by commit.changes before) ≤ heaviest_map

-- each commit is legal on the map that those before it make
abbrev pub AreLegal : Formats → Store → KeyMap → List Commit → Type 0
AreLegal formats store before [] = Unit {0}
AreLegal formats store before (commit ∷ commits) =
    IsLegalCommit formats store before commit × AreLegal formats store (changed_by commit.changes before) commits

-- and the history isn't too heavy
pub record IsLegal (formats : Formats) (store : Store) (history : List Commit) : Type 0 where
  pub each : AreLegal formats store store.start history
  pub not_full : history_weight history ≤ heaviest_history
