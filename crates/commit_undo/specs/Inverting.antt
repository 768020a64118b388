-- What is answered where a commit is to be taken back.
use Rattle.std.specs.Prelude.{◌≡◌, ◌⊎◌, ⊤, ℕ, ◌<◌, List, length, map as over, Some}
use Rattle.model_maps.specs.KeyMap.{KeyMap}
use Rattle.model_history.specs.History.{Commit}
use Rattle.model_undo.specs.Undoing.{IsThere, inverse, overtaken}
use Rattle.commit_log.specs.CommitView.{change_of}
use Rattle.commit_log.specs.declared.commits.Change.{Change}
use Rattle.commit_undo.specs.declared.faults.InverseFault.{InverseFault}
use Rattle.commit_undo.specs.declared.faults.InverseFault.TheVariants.{NoCommit, Overtaken, Memory}

-- the commit has an inverse, and these changes are it
pub record IsInverse (start : KeyMap) (history : List Commit) (number : ℕ) (changes : List Change) : Type 0 where
  pub there : IsThere history number
  pub is : over change_of changes ≡ inverse start history number

-- no commit has the number
abbrev pub IsNumberOfNone : List Commit → ℕ → Type 0
IsNumberOfNone history number = (number ≡ 0) ⊎ (length history < number)

-- why it has none: there is no such commit, or a later one changes a name of it. Of want of memory nothing is said
abbrev pub IsRefusal : List Commit → ℕ → InverseFault → Type 0
IsRefusal history number (NoCommit told front) =
    IsNumberOfNone history number × (told ≡ number) × (front ≡ length history)
IsRefusal history number (Overtaken name by front) =
    (overtaken history number ≡ Some (by, name)) × (front ≡ length history)
IsRefusal history number Memory = ⊤
