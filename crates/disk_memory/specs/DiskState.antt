-- A disk over memory, whose calls fail as its maker asked. This project's own.
use Rattle.std.specs.Prelude.{◌≡◌, ◌⊎◌, ℕ, ◌≤◌, List, [], ◌∷◌, ◌++◌, length, take, if◌then◌else◌, false, Option, IsSomeAnd, Contains, bytes_eq}
use Rattle.std.specs.List.{AllByRecursion}
use Rattle.std.specs.declared.vec.Vec.{Vec}
use Rattle.std.specs.declared.alloc.Global.{Global}
use Rattle.kdb_outside.specs.Calls.{next_count}
use Rattle.kdb_outside.specs.Images.{Image, IsImage}
use Rattle.disk_memory.specs.declared.changes.Change.{Change}
use Rattle.disk_memory.specs.Choices.{left_along}
use Rattle.disk_memory.specs.Steps.{steps_of, after_all, LeavesAfter, synced}

-- a file's name and its bytes
pub record File : Type 0 where
  pub name : List ℕ
  pub bytes : List ℕ

-- the file that a name and a vector of bytes make
abbrev pub file_of : List ℕ × Vec ℕ Global → File
file_of (name, bytes) = record { name = name; bytes = bytes.items }

-- no file has the name of a later one
abbrev pub HaveDistinctNames : List (List ℕ × Vec ℕ Global) → Type 0
HaveDistinctNames [] = Unit {0}
HaveDistinctNames (file ∷ files) =
    AllByRecursion (λ later. bytes_eq file.0 later.0 ≡ false) files × HaveDistinctNames files

-- the bytes of the file of this name, and none where there is no such file
abbrev pub bytes_of : List File → List ℕ → List ℕ
bytes_of [] name = []
bytes_of (file ∷ files) name = if bytes_eq file.name name then file.bytes else bytes_of files name

-- the files as they were at first, what calls have changed since, the numbers of the calls that fail, after how many
-- calls each one fails, how many calls there were, and how many failed
pub record DiskState : Type 0 where
  pub initial : List File
  pub past : List Change
  pub failing : List ℕ
  pub stop_after : Option ℕ
  pub calls : ℕ
  pub faults : ℕ

-- a disk with these files and no calls so far
abbrev pub begun : List File → List ℕ → Option ℕ → DiskState
begun initial failing stop_after =
    record { initial = initial; past = []; failing = failing; stop_after = stop_after; calls = 0; faults = 0 }

-- the call that comes next is a listed one, or comes after the last that may go through
abbrev pub IsNextFailing : DiskState → Type 0
IsNextFailing disk =
    Contains disk.failing (next_count disk.calls) ⊎ IsSomeAnd disk.stop_after (λ last. last ≤ disk.calls)

-- a call went through, and changed no file
abbrev pub after_call : DiskState → DiskState
after_call disk = record disk { calls = next_count disk.calls }

-- a call went through, and made this change
abbrev pub after_change : Change → DiskState → DiskState
after_change change disk = record disk { past = disk.past ++ change ∷ []; calls = next_count disk.calls }

-- a call failed, and changed no file
abbrev pub after_failure : DiskState → DiskState
after_failure disk = record disk { calls = next_count disk.calls; faults = next_count disk.faults }

-- what a read of each file gives
abbrev pub seen_of : DiskState → List ℕ → List ℕ
seen_of disk file = after_all (bytes_of disk.initial file) (steps_of file disk.past)

-- what a crash may leave of each file
abbrev pub left_of : DiskState → List ℕ → List ℕ → Type 0
left_of disk file = LeavesAfter (bytes_of disk.initial file) (bytes_of disk.initial file) (steps_of file disk.past)

-- the bytes of each file at its last sync, and at first where there was none
abbrev pub synced_of : DiskState → List ℕ → List ℕ
synced_of disk file = synced (bytes_of disk.initial file) (bytes_of disk.initial file) (steps_of file disk.past)

-- what the crash of this number leaves of each file
abbrev pub left_by : ℕ → DiskState → List ℕ → List ℕ
left_by number disk file = left_along number file 0 (bytes_of disk.initial file) (bytes_of disk.initial file) disk.past

-- how many changes there were
abbrev pub moment_of : DiskState → ℕ
moment_of disk = length disk.past

-- the disk behind the first of its changes
abbrev pub at_moment : ℕ → DiskState → DiskState
at_moment moment disk = record disk { past = take moment disk.past }

-- a crash at some moment since this one might have left this image
abbrev pub left_since_of : DiskState → ℕ → Image → Type 0
left_since_of disk since image =
    (moment : ℕ) × (since ≤ moment) × (moment ≤ moment_of disk) × IsImage (left_of (at_moment moment disk)) image

-- the files are what the changes made of the first ones
abbrev pub Agrees : List File → List Change → List File → Type 0
Agrees initial past files =
    (file : List ℕ) → bytes_of files file ≡ after_all (bytes_of initial file) (steps_of file past)
