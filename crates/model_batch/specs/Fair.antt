-- Which replies of some sessions are fair, by the one history that their store comes to have. Steps and replies stand
-- in rows: for each phase a row, and in it a list for each session. (This project's own.)
use Rattle.std.specs.Prelude.{◌≡◌, ◌⊎◌, ℕ, zero, suc, ◌+◌, ◌<◌, List, [], ◌∷◌, ◌++◌, length, sum_by, slice_get, take, Some, All}
use Rattle.std.specs.List.{flat_map}
use Rattle.std.specs.Option.{unwrap_or}
use Rattle.batch_script.specs.declared.steps.Step.{Step}
use Rattle.kdb_handle.specs.declared.replies.Reply.{Reply}
use Rattle.model_batch.specs.Replies.{failures_told, numbers_told, refusals_told}
use Rattle.model_batch.specs.Sessions.{Session, first_session}
use Rattle.model_batch.specs.Told.{IsAtLeast, TellsPhase, numbers_by}
use Rattle.model_history.specs.History.{Commit}
use Rattle.model_maps.specs.KeyMap.{KeyMap}
use Rattle.model_store.specs.Store.{Formats}
use Rattle.mounted_files.specs.declared.files.MountedFile.{MountedFile}

-- what a session has in a row
abbrev pub in_row : {A : Type 0} → ℕ → List (List A) → List A
in_row i row = unwrap_or (slice_get row i) []

-- what it has in all phases, one behind the other
abbrev pub of_session : {A : Type 0} → ℕ → List (List (List A)) → List A
of_session i rows = flat_map (in_row i) rows

-- the numbers of the commits that the replies of a session tell
abbrev pub commits_told : ℕ → List (List (List Reply)) → List ℕ
commits_told i rows = flat_map numbers_told (of_session i rows)

-- how many commits the replies of the first so many sessions tell
abbrev pub count_told : ℕ → List (List (List Reply)) → ℕ
count_told zero rows = 0
count_told (suc i) rows = count_told i rows + length (commits_told i rows)

-- how many of all replies tell a set that failed for the disk, and a pattern that the matcher refused
abbrev pub count_failed : List (List (List Reply)) → ℕ
count_failed rows = sum_by (λ row. sum_by (λ answers. sum_by failures_told answers) row) rows

abbrev pub count_refused : List (List (List Reply)) → ℕ
count_refused rows = sum_by (λ row. sum_by (λ answers. sum_by refusals_told answers) row) rows

-- phase by phase the steps of a session have their replies, where these replies of all sessions stand before
abbrev pub TellsPhases : Formats → List MountedFile → KeyMap → ℕ → List Commit → ℕ → ℕ → Session → List (List (List Reply)) → List (List (List Step)) → List (List (List Reply)) → Session → Type 0
TellsPhases formats files procs number history sessions i old before [] [] new = new ≡ old
TellsPhases formats files procs number history sessions i old before [] (row ∷ replies) new = ⊥
TellsPhases formats files procs number history sessions i old before (made ∷ steps) [] new = ⊥
TellsPhases formats files procs number history sessions i old before (made ∷ steps) (row ∷ replies) new =
    TellsPhase formats files procs number history (count_told sessions before) old (in_row i made) (in_row i row)
    (λ mid. TellsPhases formats files procs number history sessions i mid (before ++ row ∷ []) steps replies new)

-- The sessions' handles are numbered from 1. Each session's replies are what its steps mean. The commits with its
-- number are just those that its replies tell, in order, each once; and no others are in the history. In each phase
-- every front is at least the count of the commits of all earlier phases
pub record IsFair (formats : Formats) (files : List MountedFile) (sessions : ℕ) (procs : ℕ → KeyMap) (history : List Commit) (steps : List (List (List Step))) (replies : List (List (List Reply))) : Type 0 where
  pub tells : (i : ℕ) → i < sessions
      → (last : Session)
      × TellsPhases formats files (procs (i + 1)) (i + 1) history sessions i first_session [] steps replies last
  pub own : (i : ℕ) → i < sessions → numbers_by (i + 1) history ≡ commits_told i replies
  pub only : (number : ℕ) → (number ≡ 0) ⊎ (sessions < number) → numbers_by number history ≡ []
  pub phases : (p : ℕ) (row : List (List Reply)) → slice_get replies p ≡ Some row
      → All (All (IsAtLeast (count_told sessions (take p replies)))) row
