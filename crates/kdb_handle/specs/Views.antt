-- What contracts see of a shared store and of the seats that no handle has, whatever they are stored as. (This
-- project's own.)
use Rattle.std.specs.Prelude.{ℕ, List, [], ◌∷◌, Option}
use Rattle.std.specs.Coded.{Coded}
use Rattle.std.specs.Vec.{vec_capacity}
use Rattle.kdb_handle.specs.Opened.{opening_of}
use Rattle.kdb_handle.specs.Story.{Told, Opened}
use Rattle.kdb_handle.specs.declared.deals.FreeSeats.{FreeSeats}
use Rattle.kdb_handle.specs.declared.stores.Locked.{Locked}
use Rattle.mounted_files.specs.declared.files.MountedFile.{MountedFile}
use Rattle.seat_lock.specs.Known.{Known, Place}
use Rattle.store_core.specs.declared.cores.Core.{Core}
use Rattle.store_core.specs.declared.cores.Plan.{Plan}

-- the lock of a store: how many seats it has, and how the story began
abbrev pub lock_of : {V F E : Type 0} → Locked V F E → Place E
lock_of store = store.lock

-- what the opening of the store fixed
abbrev pub plan_of : {V F E : Type 0} → Locked V F E → Plan F
plan_of store = store.plan

-- the mounts with what their files held
abbrev pub files_of : {F : Type 0} → Plan F → List MountedFile
files_of plan = plan.mounted

-- the mounts of a store
abbrev pub files_in : {V F E : Type 0} → Locked V F E → List MountedFile
files_in store = store.plan.mounted

-- the seats that no handle has, and for how many there is room where they stand
abbrev pub seats_of : FreeSeats → List (Known Told)
seats_of free = free.seats.items

abbrev pub room_of : FreeSeats → ℕ
room_of free = vec_capacity free.seats

-- the flusher, where it is with these seats still
abbrev pub spare_of : FreeSeats → Option (Known Told)
spare_of free = free.flusher

-- how the story of a store begins that was just opened
abbrev pub first_story : {D P F : Type 0} → Coded D → (P → ℕ) → Plan F → Core D P → List Told
first_story code refused plan core =
    Opened (opening_of code plan.mounted core.journal (refused core.patterns) core.wrote) ∷ []
