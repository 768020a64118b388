-- So many files have been added, and they mean their states.
use Rattle.std.proofs.Common.{◌≡◌, true, length}
use Rattle.mounted_files.specs.Begins.{Begins}
use Rattle.mounted_files.specs.Begun.{others}
use Rattle.mounted_files.specs.Writable.{CanBeWrittenSoFar}
use Rattle.store_core.specs.Frames.{OnlyReadsFiles}
use Rattle.store_core.proofs.mounting.mount_others.Given as goal

abbrev pub invariant-loop-added : goal.invariant-loop-added
invariant-loop-added g l = record {
  reads : OnlyReadsFiles g.D.Disk l.initial.journal l.journal;
  others : others l.opening ≡ others l.initial.opening;
  count : length l.opening.files ≡ l._added;
  storable : CanBeWrittenSoFar g.F.Formats.is_storable l.initial.opening → CanBeWrittenSoFar g.F.Formats.is_storable l.opening;
  begins : g.D.Disk.tells l.initial.journal.disk ≡ true
      → Begins g.F.Formats.reads g.F.Formats.is_bad_at (g.D.Disk.seen l.initial.journal.disk) l.initial.opening
      → Begins g.F.Formats.reads g.F.Formats.is_bad_at (g.D.Disk.seen l.initial.journal.disk) l.opening;
}
