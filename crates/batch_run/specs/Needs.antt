-- What the sessions of a script need before their first step. (This project's own.)
use Rattle.std.specs.Prelude.{◌≡◌, ℕ, ◌≤◌, [], length}
use Rattle.std.specs.Vec.{vec_capacity}
use Rattle.batch_run.specs.Rooms.{ArePhaseRooms}
use Rattle.batch_run.specs.declared.running.Room.{Room}
use Rattle.batch_script.specs.declared.steps.Script.{Script}
use Rattle.model_batch.specs.Scripts.{sessions_of}

-- the numbers of the sessions, room for all replies, and empty places for so many sessions and for their handles on the
-- way back
pub record HasRoom (script : Script) (handles : ℕ) (room : Room) : Type 0 where
  pub numbers : room.numbers.items ≡ sessions_of script
  pub rooms : ArePhaseRooms (sessions_of script) script.phases room.rooms.items
  pub shown : room.shown.items ≡ []
  pub wide : length script.phases ≤ vec_capacity room.shown
  pub workers : room.workers.items ≡ []
  pub workers_wide : handles ≤ vec_capacity room.workers
  pub back : room.handles.items ≡ []
  pub back_wide : handles ≤ vec_capacity room.handles
