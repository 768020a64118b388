-- The metadata so far and the items that are left are all, and those have names that metadata may have.
use Rattle.std.proofs.Common.{length}
use Rattle.dump_storage.specs.SoFarView.{HaveMetaLengths}
use Rattle.dump_storage.proofs.SoFarLemmas.{Splits}
use Rattle.dump_storage.proofs.entry_so_far.EntrySoFar.into_entry.Given as goal

abbrev pub invariant-loop-name : goal.invariant-loop-name
invariant-loop-name l =
    record { all : Splits l.fn.self.meta l.meta l.left.entries; lengths : HaveMetaLengths l.left.entries }

abbrev pub decreases-loop-name : goal.decreases-loop-name
decreases-loop-name l = length l.left.entries
