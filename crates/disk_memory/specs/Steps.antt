-- The steps that calls made with files, and what reads give and a crash may leave behind them. This project's own.
use Rattle.std.specs.Prelude.{◌≡◌, ℕ, List, [], ◌∷◌, length, take, if◌then◌else◌, nat_le, bytes_eq}
use Rattle.kdb_outside.specs.Files.{written}
use Rattle.kdb_outside.specs.Images.{IsTornWrite, IsTornCut}
use Rattle.disk_memory.specs.declared.changes.Change.{Change}
use Rattle.disk_memory.specs.declared.changes.Step.{Step}
use Rattle.disk_memory.specs.declared.changes.Step.TheVariants.{Wrote, Cut, Synced}

-- the steps of one file
abbrev pub steps_of : List ℕ → List Change → List Step
steps_of file [] = []
steps_of file (change ∷ rest) =
    if bytes_eq change.file file then change.step ∷ steps_of file rest else steps_of file rest

-- what a read gives after a step; a write that would begin past the end is not made
abbrev pub after : List ℕ → Step → List ℕ
after seen (Wrote at bytes) = if nat_le at (length seen) then written seen at bytes else seen
after seen (Cut new_length) = take new_length seen
after seen Synced = seen

-- what a read gives after all of these steps
abbrev pub after_all : List ℕ → List Step → List ℕ
after_all seen [] = seen
after_all seen (step ∷ rest) = after_all (after seen step) rest

-- a crash behind a step may leave this, where a read gave and a former crash might have left those bytes before
abbrev pub Leaves : Step → List ℕ → List ℕ → List ℕ → Type 0
Leaves (Wrote at bytes) seen former now = IsTornWrite at bytes former now
Leaves (Cut new_length) seen former now = IsTornCut new_length former now
Leaves Synced seen former now = now ≡ seen

-- a crash behind all of these steps may leave this
abbrev pub LeavesAfter : List ℕ → List ℕ → List Step → List ℕ → Type 0
LeavesAfter seen former [] now = now ≡ former
LeavesAfter seen former (step ∷ rest) now =
    (next : List ℕ) × Leaves step seen former next × LeavesAfter (after seen step) next rest now

-- what is sure to be there after a step, where a read gave and those bytes were sure before
abbrev pub sure_after : Step → List ℕ → List ℕ → List ℕ
sure_after (Wrote at bytes) seen sure = sure
sure_after (Cut new_length) seen sure = sure
sure_after Synced seen sure = seen

-- what the last sync among these steps made sure
abbrev pub synced : List ℕ → List ℕ → List Step → List ℕ
synced seen sure [] = sure
synced seen sure (step ∷ rest) = synced (after seen step) (sure_after step seen sure) rest
