-- A phase more, on lists of phases and of rooms.
use Rattle.std.proofs.Common.{◌≡◌, ℕ, ◌+◌, ◌<◌, List, [], ◌∷◌, ◌++◌, length, get_or, set, take, map, sym, ap, subst, ◌∙◌, arith}
use Rattle.std.proofs.lemmas.List.{map_push, take_more, take_more_set}
use Rattle.batch_run.specs.Going.{IsThrough}
use Rattle.batch_run.specs.Rooms.{row_in}
use Rattle.batch_run.specs.Stands.{Stand, rows_of}
use Rattle.batch_run.specs.Workers.{IsResting, number_in}
use Rattle.batch_run.specs.declared.rooms.PhaseRooms.{PhaseRooms}
use Rattle.batch_run.specs.declared.workers.Worker.{Worker}
use Rattle.batch_run.proofs.Standing.{stand-next}
use Rattle.batch_script.specs.declared.steps.Phase.{Phase}
use Rattle.batch_script.specs.declared.steps.Step.{Step}
use Rattle.kdb_handle.specs.Story.{Told}
use Rattle.kdb_handle.specs.declared.replies.Reply.{Reply}
use Rattle.model_batch.specs.Scripts.{steps_in}
use Rattle.model_maps.specs.KeyMap.{KeyMap}
use Rattle.model_store.specs.Store.{Formats}
use Rattle.seat_lock.specs.Known.{Place}
use Rattle.store_core.specs.declared.cores.Plan.{Plan}

module _ (formats : Formats) {F : Type 0} (lock : Place Told) (plan : Plan F) where
  pub phase-next : (procs : ℕ → KeyMap) (names : List ℕ) (phases : List Phase) (rooms : List PhaseRooms) (p : ℕ)
      (d : Phase) (room : PhaseRooms) (old new : List Worker) → p < length phases → p < length rooms
      → Stand formats lock plan procs (rows_of names (take p phases)) (map row_in (take p rooms)) old
      → map number_in old ≡ names
      → IsThrough formats lock plan (map (steps_in (get_or phases p d).sessions) (map number_in old)) (row_in room) old new
      → Stand formats lock plan procs (rows_of names (take (p + 1) phases)) (map row_in (take (p + 1) (set rooms p room))) new
  phase-next procs names phases rooms p d room old new lt within stand named through =
      let row : Phase → List (List Step) = λ (phase : Phase). map (steps_in phase.sessions) names in
      let steps : rows_of names (take (p + 1) phases) ≡ rows_of names (take p phases) ++ row (get_or phases p d) ∷ [] = ap (map row) (take_more phases p d lt) ∙ map_push row (take p phases) (get_or phases p d) in
      let replies : map row_in (take (p + 1) (set rooms p room)) ≡ map row_in (take p rooms) ++ row_in room ∷ [] = ap (map row_in) (take_more_set rooms p room within) ∙ map_push row_in (take p rooms) room in
      let gone : IsThrough formats lock plan (row (get_or phases p d)) (row_in room) old new =
      subst (λ (ns : List ℕ). IsThrough formats lock plan (map (steps_in (get_or phases p d).sessions) ns) (row_in room) old new) named through in
      let next = stand-next formats lock plan procs (rows_of names (take p phases)) (map row_in (take p rooms)) (row (get_or phases p d)) (row_in room) old new stand gone in
      subst (λ (s : List (List (List Step))). Stand formats lock plan procs s (map row_in (take (p + 1) (set rooms p room))) new) (sym steps)
      (subst (λ (r : List (List (List Reply))). Stand formats lock plan procs (rows_of names (take p phases) ++ row (get_or phases p d) ∷ []) r new) (sym replies) next)

  -- and all rest again
  pub rest-next : (steps : List (List Step)) (replies : List (List Reply)) (old new : List Worker)
      → IsThrough formats lock plan steps replies old new → (i : ℕ) (d : Worker) → i < length new
      → IsResting lock plan (get_or new i d)
  rest-next steps replies old new through i d lt =
      let was : i < length old = omega (arith, through.many) in
      record { ready = (through.goes i d was).ready; none = through.idle i d was }
