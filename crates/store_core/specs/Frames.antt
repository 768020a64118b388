-- What a call leaves of an open store as it was. (This project's own.)
use Rattle.std.specs.Prelude.{◌≡◌}
use Rattle.kdb_outside.specs.declared.disks.Disk.{Ghosts}
use Rattle.kdb_outside.specs.Frames.{OnlyReads}
use Rattle.intent_journal.specs.Journal.{JournalValue}
use Rattle.intent_journal.specs.Passing.{IsSame}
use Rattle.store_core.specs.declared.cores.Core.{Core}

-- the disk is only read, and what is known of the journal stays
pub record OnlyReadsFiles {D : Type 0} (g : Ghosts D) (old new : JournalValue D) : Type 0 where
  pub reads : OnlyReads g old.disk new.disk
  pub same : IsSame old new
  pub in_doubt : new.in_doubt ≡ old.in_doubt

-- nothing is written, and nothing of what is kept moves; the history may have got room for further commits
pub record IsUnwritten {D P : Type 0} (old new : Core D P) : Type 0 where
  pub journal : new.journal ≡ old.journal
  pub history : new.history.commits ≡ old.history.commits
  pub start : new.start ≡ old.start
  pub keys : new.keys ≡ old.keys
  pub wrote : new.wrote ≡ old.wrote
