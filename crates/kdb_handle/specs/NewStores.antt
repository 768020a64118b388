-- What comes of sharing an open store, and of opening a handle of it. (This project's own.)
use Rattle.std.specs.Prelude.{◌≡◌, ℕ, ◌+◌, ◌-◌, [], length, None, Result, Err, IfOk, IfErr, OnOk, OnErr}
use Rattle.std.specs.Coded.{Coded}
use Rattle.kdb_handle.specs.Handles.{HandleValue}
use Rattle.kdb_handle.specs.Stores.{AreFree, HasFlusher, IsHandle, IsStarted}
use Rattle.kdb_handle.specs.Story.{Told}
use Rattle.kdb_handle.specs.Views.{first_story, lock_of, plan_of, room_of, seats_of, spare_of}
use Rattle.kdb_handle.specs.declared.deals.FreeSeats.{FreeSeats}
use Rattle.kdb_handle.specs.declared.deals.NoHandle.{NoHandle}
use Rattle.kdb_handle.specs.declared.deals.NoHandle.TheVariants as no_handle
use Rattle.kdb_handle.specs.declared.stores.NewStore.{NewStore}
use Rattle.kdb_handle.specs.declared.stores.NotShared.{NotShared}
use Rattle.model_maps.specs.KeyMap.{KeyMap}
use Rattle.seat_lock.specs.Known.{Place}
use Rattle.store_core.specs.declared.cores.Core.{Core}
use Rattle.store_core.specs.declared.cores.Plan.{Plan}
use Rattle.store_verdict.specs.RecordView.{proc_of, record_of}

-- A plan and a core are shared for so many handles and a flusher: the story begins with their opening, and no handle
-- has a seat yet. Or both come back
pub record SharesStore {D P F : Type 0} (code : Coded D) (refused : P → ℕ) (given : Plan F) (core : Core D P) (handles : ℕ) (result : Result (NewStore D F P) (NotShared D F P)) : Type 0 where
  pub plan : IfOk result (λ new. plan_of new.store ≡ given)
  pub start : IfOk result (λ new. (lock_of new.store).start ≡ first_story code refused given core)
  pub started : IfOk result (λ new. IsStarted (lock_of new.store) (plan_of new.store))
  pub count : IfOk result (λ new. (lock_of new.store).seats ≡ handles + 1)
  pub seats : IfOk result (λ new. AreFree (lock_of new.store) (seats_of new.seats) (room_of new.seats))
  pub all : IfOk result (λ new. length (seats_of new.seats) ≡ handles)
  pub flusher : IfOk result (λ new. HasFlusher (lock_of new.store) (spare_of new.seats) None)
  pub err : IfErr result (λ none. (none.plan ≡ given) × (none.core ≡ core))

-- The handle of the next number is opened with some keys in `proc`: it has seen the opening, and made nothing. There is
-- none exactly where no seat is free, or for want of memory; then the seats stay
pub record OpensHandle {F : Type 0} (lock : Place Told) (plan : Plan F) (keys : KeyMap) (old new : FreeSeats) (result : Result HandleValue NoHandle) : Type 0 where
  pub handle : IfOk result (λ handle. IsHandle lock plan handle)
  pub number : IfOk result (λ handle. handle.number ≡ lock.seats - length (seats_of old))
  pub seen : IfOk result (λ handle. handle.seen ≡ lock.start)
  pub own : IfOk result (λ handle. handle.own ≡ [])
  pub rec : IfOk result (λ handle. (m : ℕ) → (record_of handle.rec).fetched m ≡ None)
  pub proc : IfOk result (λ handle. proc_of handle.rec ≡ keys)
  pub free : AreFree lock (seats_of new) (room_of new)
  pub flusher : spare_of new ≡ spare_of old
  pub fewer : OnOk result (length (seats_of new) + 1 ≡ length (seats_of old))
  pub none : result ≡ Err no_handle.NoSeat → length (seats_of old) ≡ 0
  pub same : OnErr result (new ≡ old)
