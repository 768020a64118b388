-- What flushes leave between two events. (This project's own.)
use Rattle.std.specs.Prelude.{◌≡◌}
use Rattle.kdb_outside.specs.declared.disks.Disk.{Ghosts}
use Rattle.kdb_outside.specs.Frames.{GoesOn}
use Rattle.model_crashes.specs.Runs.{Run}
use Rattle.store_core.specs.declared.cores.Core.{Core}
use Rattle.store_phases.specs.Stores.{IsStore}

-- what is kept stays, and the disk stands for the same run
pub record HasFlushed {D P : Type 0} (g : Ghosts D) (old new : Core D P) : Type 0 where
  pub history : new.history ≡ old.history
  pub start : new.start ≡ old.start
  pub keys : new.keys ≡ old.keys
  pub patterns : new.patterns ≡ old.patterns
  pub on_disk : (opened : D) (run : Run) → IsStore g opened old.journal run → IsStore g opened new.journal run
  pub goes : GoesOn g old.journal.disk new.journal.disk
