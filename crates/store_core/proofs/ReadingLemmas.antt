-- Reading files through a journal, one after the other.
use Rattle.std.proofs.Common.{refl, ◌∙◌}
use Rattle.kdb_outside.specs.declared.disks.Disk.{Ghosts}
use Rattle.kdb_outside.proofs.Frames.{OnlyReads-none, OnlyReads-then}
use Rattle.intent_journal.specs.Journal.{JournalValue}
use Rattle.store_core.specs.Frames.{OnlyReadsFiles}

pub files-none : {D : Type 0} (g : Ghosts D) (journal : JournalValue D) → OnlyReadsFiles g journal journal
files-none g journal =
    record {
      reads = OnlyReads-none g journal.disk;
      same = record { headed = refl; start = refl; list = refl };
      in_doubt = refl;
    }

pub files-then : {D : Type 0} (g : Ghosts D) (old mid new : JournalValue D) → OnlyReadsFiles g old mid
    → OnlyReadsFiles g mid new → OnlyReadsFiles g old new
files-then g old mid new first second = record {
  reads = OnlyReads-then g old.disk mid.disk new.disk first.reads second.reads;
  same = record { headed = second.same.headed ∙ first.same.headed; start = second.same.start ∙ first.same.start; list = second.same.list ∙ first.same.list };
  in_doubt = second.in_doubt ∙ first.in_doubt;
}
