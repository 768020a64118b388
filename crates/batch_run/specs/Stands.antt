-- Where the sessions of a batch stand after some phases. (This project's own.)
use Rattle.std.specs.Prelude.{◌≡◌, ℕ, ◌+◌, ◌≤◌, ◌<◌, List, [], length, get_or, slice_get, take, Option, Some, All, map as over, sum_by}
use Rattle.std.specs.List.{flat_map}
use Rattle.batch_script.specs.declared.steps.Phase.{Phase}
use Rattle.batch_script.specs.declared.steps.Step.{Step}
use Rattle.batch_run.specs.declared.workers.Worker.{Worker}
use Rattle.batch_run.specs.declared.workspaces.Workspace.{Workspace}
use Rattle.kdb_handle.specs.Handles.{HandleValue}
use Rattle.kdb_handle.specs.Stores.{IsHandle}
use Rattle.kdb_handle.specs.Story.{Told, commits_of, failures_in, refusals_in}
use Rattle.kdb_handle.specs.declared.replies.Reply.{Reply}
use Rattle.model_batch.specs.Fair.{TellsPhases, in_row, of_session, count_told}
use Rattle.model_batch.specs.Replies.{failures_told, numbers_told, refusals_told}
use Rattle.model_batch.specs.Scripts.{steps_in}
use Rattle.model_batch.specs.Sessions.{Watching, first_session}
use Rattle.model_batch.specs.Told.{IsAtLeast, numbers_by}
use Rattle.model_maps.specs.KeyMap.{KeyMap}
use Rattle.model_store.specs.Store.{Formats}
use Rattle.mounted_files.specs.declared.files.MountedFile.{MountedFile}
use Rattle.seat_lock.specs.Known.{Place}
use Rattle.batch_run.specs.Stepping.{held, session_of}
use Rattle.batch_run.specs.Watching.{StandsFor}
use Rattle.store_core.specs.declared.cores.Plan.{Plan}
use Rattle.store_verdict.specs.RecordView.{proc_of}

-- By the history that a handle has seen the replies of a session's phases are what its steps mean, from its beginning
-- on
pub record LeadsThrough (formats : Formats) (files : List MountedFile) (procs : KeyMap) (sessions i : ℕ) (steps : List (List (List Step))) (replies : List (List (List Reply))) (handle : HandleValue) (workspace : Workspace) : Type 0 where
  pub told : ℕ
  pub within : told ≤ length (commits_of handle.seen)
  pub watching : Option Watching
  pub watches : StandsFor (commits_of handle.seen) workspace.watch watching
  pub tells : TellsPhases formats files procs (i + 1) (commits_of handle.seen) sessions i first_session [] steps replies (session_of handle (held workspace watching) told)

-- The session of a place has taken the steps of some phases, with these replies: by the history that it has seen they
-- are what the steps mean, and its own commits there are those that it was told of, as are the sets that failed and the
-- refused patterns among what it made
pub record HasTaken (formats : Formats) {F : Type 0} (lock : Place Told) (plan : Plan F) (procs : KeyMap) (sessions i : ℕ) (steps : List (List (List Step))) (replies : List (List (List Reply))) (worker : Worker) : Type 0 where
  pub handle : IsHandle lock plan worker.session.handle
  pub number_is : worker.session.handle.number ≡ i + 1
  pub procs_are : proc_of worker.session.handle.rec ≡ procs
  pub leads : LeadsThrough formats plan.mounted procs sessions i steps replies worker.session.handle worker.session.workspace
  pub own : numbers_by (i + 1) (commits_of worker.session.handle.seen) ≡ flat_map numbers_told (of_session i replies)
  pub failures : failures_in worker.session.handle.own ≡ sum_by failures_told (of_session i replies)
  pub refusals : refusals_in worker.session.handle.own ≡ sum_by refusals_told (of_session i replies)
  pub idle : worker.told.items ≡ []

-- a row has a reply for each step of a row
pub record IsFull (count : ℕ) (steps : List (List Step)) (replies : List (List Reply)) : Type 0 where
  pub wide : length replies ≡ count
  pub even : (i : ℕ) → i < count → length (in_row i replies) ≡ length (in_row i steps)

-- All sessions went through some phases, whose steps and replies stand in rows. What each has seen has at least as many
-- commits as all replies tell, and in each phase each front was at least the count of those that the replies of earlier
-- phases tell
pub record Stand (formats : Formats) {F : Type 0} (lock : Place Told) (plan : Plan F) (procs : ℕ → KeyMap) (steps : List (List (List Step))) (replies : List (List (List Reply))) (workers : List Worker) : Type 0 where
  pub long : length replies ≡ length steps
  pub full : (p : ℕ) (made : List (List Step)) (row : List (List Reply)) → slice_get steps p ≡ Some made
      → slice_get replies p ≡ Some row → IsFull (length workers) made row
  pub each : (i : ℕ) (d : Worker) → i < length workers
      → HasTaken formats lock plan (procs (i + 1)) (length workers) i steps replies (get_or workers i d)
  pub covers : (i : ℕ) (d : Worker) → i < length workers
      → count_told (length workers) replies ≤ length (commits_of (get_or workers i d).session.handle.seen)
  pub phases : (p : ℕ) (row : List (List Reply)) → slice_get replies p ≡ Some row
      → All (All (IsAtLeast (count_told (length workers) (take p replies)))) row

-- the steps of some sessions, in a row for each phase
abbrev pub rows_of : List ℕ → List Phase → List (List (List Step))
rows_of numbers phases = over (λ (phase : Phase). over (steps_in phase.sessions) numbers) phases
