-- What the caller of a batch's sessions gives, and what it gets back. (This project's own.)
use Rattle.std.specs.Prelude.{◌≡◌, ◌⊎◌, ℕ, ◌+◌, ◌<◌, List, [], length, get_or, None, All, sum_by}
use mathlib.Core.List.{IsPrefix}
use Rattle.batch_script.specs.declared.steps.Script.{Script}
use Rattle.kdb_handle.specs.Handles.{HandleValue}
use Rattle.kdb_handle.specs.Stores.{IsHandle}
use Rattle.kdb_handle.specs.Story.{Told, commits_of, failures_in, refusals_in}
use Rattle.kdb_handle.specs.declared.replies.Transcripts.{Transcripts}
use Rattle.model_batch.specs.Fair.{of_session}
use Rattle.model_batch.specs.Replies.{failures_told, refusals_told}
use Rattle.model_batch.specs.Scripts.{reply_rows}
use Rattle.model_batch.specs.Told.{numbers_by}
use Rattle.model_history.specs.History.{Commit}
use Rattle.model_maps.specs.KeyMap.{KeyMap}
use Rattle.seat_lock.specs.Known.{Place}
use Rattle.store_core.specs.declared.cores.Plan.{Plan}
use Rattle.store_verdict.specs.RecordView.{proc_of, record_of}

-- a handle of this number that was just opened with these keys in `proc`
pub record IsFresh {F : Type 0} (lock : Place Told) (plan : Plan F) (number : ℕ) (procs : KeyMap) (handle : HandleValue) : Type 0 where
  pub handle_is : IsHandle lock plan handle
  pub number_is : handle.number ≡ number
  pub seen : handle.seen ≡ lock.start
  pub own : handle.own ≡ []
  pub rec : (m : ℕ) → (record_of handle.rec).fetched m ≡ None
  pub procs_are : proc_of handle.rec ≡ procs

-- handles that were just opened, numbered from 1, each with the keys in `proc` of its number
abbrev pub AreFresh : {F : Type 0} → Place Told → Plan F → (ℕ → KeyMap) → List HandleValue → Type 0
AreFresh lock plan procs handles =
    (i : ℕ) (d : HandleValue) → i < length handles → IsFresh lock plan (i + 1) (procs (i + 1)) (get_or handles i d)

-- so many handles of the store come back, numbered from 1
pub record AreBack {F : Type 0} (lock : Place Told) (plan : Plan F) (count : ℕ) (handles : List HandleValue) : Type 0 where
  pub many : length handles ≡ count
  pub each : All (IsHandle lock plan) handles
  pub numbers : (i : ℕ) (d : HandleValue) → i < count → (get_or handles i d).number ≡ i + 1

-- A history ends the story of so many handles: it begins with all that each has seen, its commits of a handle's number
-- are those that the handle has seen, and it has no others
pub record Closes (count : ℕ) (history : List Commit) (handles : List HandleValue) : Type 0 where
  pub seen : (i : ℕ) (d : HandleValue) → i < count → IsPrefix (commits_of (get_or handles i d).seen) history
  pub own : (i : ℕ) (d : HandleValue) → i < count
      → numbers_by (i + 1) history ≡ numbers_by (i + 1) (commits_of (get_or handles i d).seen)
  pub only : (number : ℕ) → (number ≡ 0) ⊎ (count < number) → numbers_by number history ≡ []

-- what a handle made has as many sets that failed, and as many refused patterns, as the replies of the session at its
-- place tell
pub record TellsOwn (script : Script) (transcripts : Transcripts) (place : ℕ) (handle : HandleValue) : Type 0 where
  pub failures : failures_in handle.own ≡ sum_by failures_told (of_session place (reply_rows script transcripts))
  pub refusals : refusals_in handle.own ≡ sum_by refusals_told (of_session place (reply_rows script transcripts))

-- so it is of each of some handles
abbrev pub TellOwn : Script → List HandleValue → Transcripts → Type 0
TellOwn script handles transcripts =
    (i : ℕ) (d : HandleValue) → i < length handles → TellsOwn script transcripts i (get_or handles i d)
