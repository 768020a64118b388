-- An open store that handles share, and which handles are its own. (This project's own.)
use Rattle.std.specs.Prelude.{◌≡◌, ℕ, ◌≤◌, ◌<◌, ◌+◌, ◌-◌, List, [], ◌∷◌, ◌++◌, length, slice_get, Option, Some}
use Rattle.std.specs.Option.{option_or}
use mathlib.Core.List.{IsPrefix}
use Rattle.kdb_handle.specs.Fronts.{Cover}
use Rattle.kdb_handle.specs.Handles.{HandleValue}
use Rattle.kdb_handle.specs.Opened.{opening_in, store_at}
use Rattle.kdb_handle.specs.Story.{Told, Opened, maker_of, commits_of}
use Rattle.model_store.specs.Records.{IsRecord}
use Rattle.model_store.specs.Sets.{front_in}
use Rattle.seat_lock.specs.Known.{Known, Place, knowledge}
use Rattle.seat_lock.specs.Story.{made_by}
use Rattle.store_core.specs.declared.cores.Plan.{Plan}
use Rattle.store_verdict.specs.ProcKeys.{AreProc}
use Rattle.store_verdict.specs.RecordView.{places_of, proc_of, record_of}

-- the story began with the opening of the plan's own files
pub record IsStarted {F : Type 0} (lock : Place Told) (plan : Plan F) : Type 0 where
  pub start : lock.start ≡ Opened (opening_in lock.start) ∷ []
  pub files : (opening_in lock.start).files ≡ plan.mounted

-- A handle of a store: it has seen the opening at least. What it made is what it has seen of its number. Its record is
-- that of its fronts in the history that it has seen, so it stays so when the handle sees more; and these fronts cover
-- the handle's own commits. Its own keys are in `proc`
pub record IsHandle {F : Type 0} (lock : Place Told) (plan : Plan F) (handle : HandleValue) : Type 0 where
  pub started : IsStarted lock plan
  pub place : handle.place ≡ lock.place
  pub begins : IsPrefix lock.start handle.seen
  pub own : handle.own ≡ made_by maker_of handle.number handle.seen
  pub places : length plan.mounted ≤ places_of handle.rec
  pub keeps : IsRecord (store_at plan.mounted) (commits_of handle.seen) handle.number (front_in (record_of handle.rec)) (record_of handle.rec)
  pub covers : Cover (store_at plan.mounted) handle.number (commits_of handle.seen) (front_in (record_of handle.rec))
  pub procs : AreProc (proc_of handle.rec)

-- The seats that no handle has yet, by their numbers: the last ones of the lock but its very last, which is the
-- flusher's. Each has seen the opening and made nothing. Where they stand is room for all seats again
pub record AreFree (lock : Place Told) (seats : List (Known Told)) (room : ℕ) : Type 0 where
  pub room_is : lock.seats ≤ room
  pub some : length seats < lock.seats
  pub each : (k : ℕ) → k < length seats
      → slice_get seats k ≡ Some (knowledge lock.place (lock.seats - length seats + k) lock.start [])

-- the flusher of a store has the last seat: it has seen the opening at least, and makes nothing
pub record IsFlusher (lock : Place Told) (flusher : Known Told) : Type 0 where
  pub place : flusher.place ≡ lock.place
  pub number : flusher.number ≡ lock.seats
  pub begins : IsPrefix lock.start flusher.seen
  pub own : flusher.own ≡ []

-- the flusher of a store is with the free seats still, or it was given
pub record HasFlusher (lock : Place Told) (kept given : Option (Known Told)) : Type 0 where
  pub flusher : Known Told
  pub there : option_or kept given ≡ Some flusher
  pub is : IsFlusher lock flusher

-- the seat of a handle
abbrev pub seat_of : HandleValue → Known Told
seat_of handle = knowledge handle.place handle.number handle.seen handle.own

-- the seats of some handles, that of the last one first
abbrev pub seats_back : List HandleValue → List (Known Told)
seats_back [] = []
seats_back (handle ∷ handles) = seats_back handles ++ seat_of handle ∷ []
