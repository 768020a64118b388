-- How a session goes on over its steps: its handle, its working set and its watch. (This project's own.)
use Rattle.std.specs.Prelude.{◌≡◌, ◌⊎◌, ℕ, ◌+◌, ◌≤◌, List, ◌++◌, length, sum_by, Option}
use Rattle.std.specs.List.{flat_map}
use mathlib.Core.List.{IsPrefix}
use Rattle.batch_script.specs.declared.steps.Step.{Step}
use Rattle.kdb_handle.specs.Handles.{HandleValue}
use Rattle.kdb_handle.specs.Story.{Told, commits_of, failures_in, refusals_in}
use Rattle.kdb_handle.specs.Stores.{IsHandle}
use Rattle.kdb_handle.specs.declared.replies.Reply.{Reply}
use Rattle.kdb_handle.specs.declared.replies.Reply.TheVariants as reply
use Rattle.model_batch.specs.Replies.{failures_told, look_reply, numbers_told, refusals_told}
use Rattle.model_batch.specs.Sessions.{Session, Watching}
use Rattle.model_batch.specs.Told.{Tells, numbers_by}
use Rattle.model_maps.specs.KeyMap.{KeyMap}
use Rattle.model_store.specs.Store.{Formats}
use Rattle.mounted_files.specs.declared.files.MountedFile.{MountedFile}
use Rattle.seat_lock.specs.Known.{Place}
use Rattle.batch_run.specs.Watching.{IsWithin, StandsFor}
use Rattle.batch_run.specs.declared.workspaces.Workspace.{Workspace}
use Rattle.spec_cascade.specs.declared.founds.Found.{Found}
use Rattle.store_core.specs.declared.cores.Plan.{Plan}
use Rattle.store_verdict.specs.RecordView.{proc_of, record_of}

-- what a session has beside its handle's record: its working set, and what it watches
pub record Held : Type 0 where
  pub working : KeyMap
  pub watching : Option Watching

abbrev pub held : Workspace → Option Watching → Held
held workspace watching = record { working = workspace.keys; watching = watching }

-- the session of a handle that was told of so many commits
abbrev pub session_of : HandleValue → Held → ℕ → Session
session_of handle holds told =
    record { working = holds.working; rec = record_of handle.rec; told = told; watching = holds.watching }

-- A handle is one of a store, and the watch beside it has looked at no commit that it hasn't seen: so it can take steps
pub record IsReady {F : Type 0} (lock : Place Told) (plan : Plan F) (handle : HandleValue) (workspace : Workspace) : Type 0 where
  pub handle_is : IsHandle lock plan handle
  pub watch : IsWithin handle.seen workspace.watch

-- An edit became the working set; or there was no memory, and it stays
abbrev pub IsEdit : KeyMap → KeyMap → KeyMap → Reply → Type 0
IsEdit edited before after answer =
    ((answer ≡ reply.Quiet) × (after ≡ edited)) ⊎ ((answer ≡ reply.Memory) × (after ≡ before))

-- what was found is told; or there was no memory
abbrev pub IsLook : Option Found → Reply → Type 0
IsLook found answer = (answer ≡ look_reply found) ⊎ (answer ≡ reply.Memory)

-- By the history that a handle has seen replies are what some steps mean from a session on, which has the handle and a
-- workspace behind them
pub record Leads (formats : Formats) (files : List MountedFile) (procs : KeyMap) (number : ℕ) (start : Session) (steps : List Step) (answers : List Reply) (handle : HandleValue) (workspace : Workspace) : Type 0 where
  pub told : ℕ
  pub within : told ≤ length (commits_of handle.seen)
  pub watching : Option Watching
  pub watches : StandsFor (commits_of handle.seen) workspace.watch watching
  pub tells : Tells formats files procs number (commits_of handle.seen) start steps answers (session_of handle (held workspace watching) told)

-- A handle of a store goes on over some steps, from one workspace to another. It has seen more of the story, by whose
-- history the replies are what the steps mean, from however many commits the session was told of, of those that were
-- seen, and from whatever it watches that the watch stands for. Its commits gain just those that the replies tell, and
-- the entries of the story that are its own gain as many sets that failed and refused patterns as they tell
pub record GoesOn (formats : Formats) {F : Type 0} (lock : Place Told) (plan : Plan F) (steps : List Step) (answers : List Reply) (old : HandleValue) (before : Workspace) (new : HandleValue) (after : Workspace) : Type 0 where
  pub ready : IsReady lock plan new after
  pub number : new.number ≡ old.number
  pub procs : proc_of new.rec ≡ proc_of old.rec
  pub seen : IsPrefix old.seen new.seen
  pub tells : (told : ℕ) (watching : Option Watching) → told ≤ length (commits_of old.seen)
      → StandsFor (commits_of old.seen) before.watch watching
      → Leads formats plan.mounted (proc_of old.rec) old.number (session_of old (held before watching) told) steps answers new after
  pub own : numbers_by old.number (commits_of new.seen)
      ≡ numbers_by old.number (commits_of old.seen) ++ flat_map numbers_told answers
  pub failures : failures_in new.own ≡ failures_in old.own + sum_by failures_told answers
  pub refusals : refusals_in new.own ≡ refusals_in old.own + sum_by refusals_told answers
