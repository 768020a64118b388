-- How sessions go on in a phase. (This project's own.)
use Rattle.std.specs.Prelude.{◌≡◌, ℕ, ◌≤◌, ◌<◌, List, [], length, get_or, map as over, slice_index_or}
use Rattle.std.specs.Global.{Vec}
use mathlib.Core.List.{IsPrefix}
use Rattle.batch_script.specs.declared.steps.Step.{Step}
use Rattle.batch_script.specs.declared.steps.Steps.{Steps}
use Rattle.batch_run.specs.Rooms.{IsRoom}
use Rattle.batch_run.specs.Workers.{number_in}
use Rattle.batch_run.specs.declared.workers.Worker.{Worker}
use Rattle.kdb_handle.specs.Handles.{HandleValue}
use Rattle.kdb_handle.specs.Stores.{IsHandle}
use Rattle.kdb_handle.specs.Story.{Told, commits_of}
use Rattle.kdb_handle.specs.declared.replies.Reply.{Reply}
use Rattle.model_batch.specs.Fair.{in_row}
use Rattle.model_batch.specs.Scripts.{steps_in}
use Rattle.model_batch.specs.Told.{numbers_by}
use Rattle.model_store.specs.Store.{Formats}
use Rattle.seat_lock.specs.Known.{Place}
use Rattle.batch_run.specs.Stepping.{GoesOn, IsReady}
use Rattle.store_core.specs.declared.cores.Plan.{Plan}

-- how many commits of a number there are in what a handle has seen
abbrev pub count_seen : ℕ → HandleValue → ℕ
count_seen number handle = length (numbers_by number (commits_of handle.seen))

-- a session took steps, and has their replies
pub record Works (formats : Formats) {F : Type 0} (lock : Place Told) (plan : Plan F) (steps : List Step) (old new : Worker) : Type 0 where
  pub goes : GoesOn formats lock plan steps new.told.items old.session.handle old.session.workspace new.session.handle new.session.workspace
  pub number : new.session.number ≡ old.session.number

-- a session has the room for replies that stood in its place, and gave what it had for it
pub record IsExchanged (old : Worker) (room : Vec Reply) (new : Worker) (left : Vec Reply) : Type 0 where
  pub session : new.session ≡ old.session
  pub told : new.told ≡ room
  pub left_is : left ≡ old.told

-- a session's handle has seen more and made nothing, and all else of it stayed
pub record Meets {F : Type 0} (lock : Place Told) (plan : Plan F) (old new : Worker) : Type 0 where
  pub handle : IsHandle lock plan new.session.handle
  pub number : new.session.handle.number ≡ old.session.handle.number
  pub seen : IsPrefix old.session.handle.seen new.session.handle.seen
  pub own : new.session.handle.own ≡ old.session.handle.own
  pub rec : new.session.handle.rec ≡ old.session.handle.rec
  pub session : new.session.number ≡ old.session.number
  pub workspace : new.session.workspace ≡ old.session.workspace
  pub told : new.told ≡ old.told

-- all sessions can take their steps, there is room for the replies to their steps of a phase, and each took them
abbrev pub AreReady : {F : Type 0} → Place Told → Plan F → List Worker → Type 0
AreReady lock plan workers =
    (i : ℕ) (d : Worker) → i < length workers → IsReady lock plan (slice_index_or workers i d).session.handle (slice_index_or workers i d).session.workspace

abbrev pub HaveOwnRoom : List Steps → List Worker → Type 0
HaveOwnRoom phase workers =
    (i : ℕ) (d : Worker) → i < length workers → IsRoom (length (steps_in phase (slice_index_or workers i d).session.number)) (slice_index_or workers i d).told

abbrev pub AllWork : {F : Type 0} → Formats → Place Told → Plan F → List Steps → List Worker → List Worker → Type 0
AllWork formats lock plan phase old new =
    (i : ℕ) (d : Worker) → i < length old
    → Works formats lock plan (steps_in phase (slice_index_or old i d).session.number) (slice_index_or old i d) (slice_index_or new i d)

-- A phase of some sessions: each took the steps of its place and got the replies there. Then they met: each has seen of
-- the commits of each other as many as that one has
pub record IsThrough (formats : Formats) {F : Type 0} (lock : Place Told) (plan : Plan F) (steps : List (List Step)) (replies : List (List Reply)) (old new : List Worker) : Type 0 where
  pub many : length new ≡ length old
  pub told : length replies ≡ length old
  pub goes : (i : ℕ) (d : Worker) → i < length old
      → GoesOn formats lock plan (in_row i steps) (in_row i replies) (get_or old i d).session.handle (get_or old i d).session.workspace (get_or new i d).session.handle (get_or new i d).session.workspace
  pub numbers : over number_in new ≡ over number_in old
  pub idle : (i : ℕ) (d : Worker) → i < length old → (get_or new i d).told.items ≡ []
  pub met : (i j : ℕ) (d : Worker) → i < length old → j < length old
      → count_seen (get_or new j d).session.handle.number (get_or new j d).session.handle ≤ count_seen (get_or new j d).session.handle.number (get_or new i d).session.handle
