-- Rooms for the replies of a batch. (This project's own.)
use Rattle.std.specs.Prelude.{◌≡◌, ℕ, ◌≤◌, ◌<◌, List, [], length, get_or, map as over}
use Rattle.std.specs.Global.{Vec}
use Rattle.std.specs.Vec.{vec_capacity}
use Rattle.batch_script.specs.declared.steps.Phase.{Phase}
use Rattle.batch_script.specs.declared.steps.Steps.{Steps}
use Rattle.batch_run.specs.declared.rooms.PhaseRooms.{PhaseRooms}
use Rattle.kdb_handle.specs.declared.replies.Reply.{Reply}
use Rattle.model_batch.specs.Scripts.{steps_in}

-- an empty room with place for so many replies
pub record IsRoom (count : ℕ) (room : Vec Reply) : Type 0 where
  pub none : room.items ≡ []
  pub wide : count ≤ vec_capacity room

-- for each session of these numbers a room for its steps in a phase
pub record HaveRoom (numbers : List ℕ) (phase : List Steps) (rooms : List (Vec Reply)) : Type 0 where
  pub many : length rooms ≡ length numbers
  pub each : (i : ℕ) (e : Vec Reply) → i < length rooms
      → IsRoom (length (steps_in phase (get_or numbers i 0))) (get_or rooms i e)

-- these, and place to show the replies of each session that the phase names
pub record AreRooms (numbers : List ℕ) (phase : List Steps) (rooms : PhaseRooms) : Type 0 where
  pub told : HaveRoom numbers phase rooms.told.items
  pub shown : rooms.shown.items ≡ []
  pub wide : length phase ≤ vec_capacity rooms.shown

-- such rooms for each phase
pub record ArePhaseRooms (numbers : List ℕ) (phases : List Phase) (rooms : List PhaseRooms) : Type 0 where
  pub many : length rooms ≡ length phases
  pub each : (p : ℕ) (phase : Phase) (e : PhaseRooms) → p < length rooms
      → AreRooms numbers (get_or phases p phase).sessions (get_or rooms p e)

abbrev pub told_in : Vec Reply → List Reply
told_in room = room.items

-- what stands in the rooms of a phase
abbrev pub row_in : PhaseRooms → List (List Reply)
row_in rooms = over told_in rooms.told.items

-- the place to show them stays as it is
pub record KeepShown (old new : List PhaseRooms) : Type 0 where
  pub many : length new ≡ length old
  pub each : (p : ℕ) (e : PhaseRooms) → p < length old → (get_or new p e).shown ≡ (get_or old p e).shown

-- it is empty, and wide enough for the sessions that each phase names
abbrev pub AreWide : List Phase → List PhaseRooms → Type 0
AreWide phases rooms =
    (p : ℕ) (phase : Phase) (e : PhaseRooms) → p < length rooms → ((get_or rooms p e).shown.items ≡ []) × (length (get_or phases p phase).sessions ≤ vec_capacity (get_or rooms p e).shown)
