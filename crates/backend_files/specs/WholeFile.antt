-- What reading a whole file gives. This project's own.
use Rattle.std.specs.Prelude.{◌≡◌, ◌⊎◌, ℕ, ◌<◌, ◌≤◌, List, [], length}
use Rattle.kdb_outside.specs.declared.disks.Disk.{Ghosts}
use Rattle.kdb_outside.specs.Frames.{OnlyReads}
use Rattle.backend_files.specs.declared.reading.FileRead.{FileRead}
use Rattle.backend_files.specs.declared.reading.FileRead.TheVariants.{Bytes, TooLong}

-- the most bytes of a file that is read, 1 MiB
abbrev pub longest_file : ℕ
longest_file = 1048576

-- the file's bytes where they are few enough, and else its length
abbrev pub IsWhole : List ℕ → FileRead → Type 0
IsWhole seen (Bytes bytes) = (bytes ≡ seen) × (length seen ≤ longest_file)
IsWhole seen (TooLong n) = (n ≡ length seen) × (longest_file < length seen)

-- whatever a disk tells: no more bytes than are read, and a length over the limit
abbrev pub IsShort : FileRead → Type 0
IsShort (Bytes bytes) = length bytes ≤ longest_file
IsShort (TooLong n) = longest_file < n

-- whatever a disk tells: no bytes, or those that a read of the file from its start gave
abbrev pub IsGiven : {D : Type 0} → Ghosts D → D → List ℕ → FileRead → Type 0
IsGiven g before file (Bytes bytes) = (bytes ≡ []) ⊎ ((disk : _) × OnlyReads g before disk × g.gives disk file 0 bytes)
IsGiven g before file (TooLong n) = Unit {0}
