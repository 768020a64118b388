-- What the steps of a session mean one after the other, and which commits are a handle's own. (This project's own.)
use Rattle.std.specs.Prelude.{◌≡◌, ℕ, nat_eq, ◌+◌, ◌≤◌, if◌then◌else◌, List, [], ◌∷◌}
use Rattle.std.specs.List.{AllByRecursion}
use Rattle.batch_script.specs.declared.steps.Step.{Step}
use Rattle.kdb_handle.specs.declared.replies.Reply.{Reply}
use Rattle.model_batch.specs.Replies.{fronts_told}
use Rattle.model_batch.specs.Sessions.{Session}
use Rattle.model_batch.specs.Steps.{Means}
use Rattle.model_history.specs.History.{Commit}
use Rattle.model_maps.specs.KeyMap.{KeyMap}
use Rattle.model_store.specs.Store.{Formats}
use Rattle.mounted_files.specs.declared.files.MountedFile.{MountedFile}

-- each step has its reply, and goes on from what the one before it left
abbrev pub Tells : Formats → List MountedFile → KeyMap → ℕ → List Commit → Session → List Step → List Reply → Session → Type 0
Tells formats files procs number history old [] [] new = new ≡ old
Tells formats files procs number history old [] (answer ∷ answers) new = ⊥
Tells formats files procs number history old (step ∷ steps) [] new = ⊥
Tells formats files procs number history old (step ∷ steps) (answer ∷ answers) new =
    (mid : Session) × Means formats files procs number history old step answer mid × Tells formats files procs number history mid steps answers new

-- a session that knows of so many commits
abbrev pub knowing : ℕ → Session → Session
knowing told session = record session { told = told }

-- The steps of a phase have their replies, and the rest goes on from what they left. When the phase begins the session
-- knows of no fewer commits than before, and of no fewer than the phases before it made
pub record TellsPhase (formats : Formats) (files : List MountedFile) (procs : KeyMap) (number : ℕ) (history : List Commit) (made : ℕ) (old : Session) (steps : List Step) (answers : List Reply) (Rest : Session → Type 0) : Type 0 where
  pub told : ℕ
  pub no_less : old.told ≤ told
  pub knows : made ≤ told
  pub mid : Session
  pub tells : Tells formats files procs number history (knowing told old) steps answers mid
  pub rest : Rest mid

-- the fronts of a reply are at least so high
abbrev pub IsAtLeast : ℕ → Reply → Type 0
IsAtLeast floor answer = AllByRecursion (λ front. floor ≤ front) (fronts_told answer)

-- the numbers of the commits that a handle made, of a history whose first commit has this number
abbrev pub numbers_from : ℕ → ℕ → List Commit → List ℕ
numbers_from number next [] = []
numbers_from number next (commit ∷ history) =
    if nat_eq commit.handle number then next ∷ numbers_from number (next + 1) history else numbers_from number (next + 1) history

-- commits are numbered from 1
abbrev pub numbers_by : ℕ → List Commit → List ℕ
numbers_by number history = numbers_from number 1 history

-- how many commits others made
abbrev pub count_of_others : ℕ → List Commit → ℕ
count_of_others number [] = 0
count_of_others number (commit ∷ history) =
    if nat_eq commit.handle number then count_of_others number history else count_of_others number history + 1
