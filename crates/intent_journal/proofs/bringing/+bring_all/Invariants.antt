-- The entries that are left.
use Rattle.std.proofs.Common.{length}
use Rattle.intent_journal.proofs.bringing.+bring_all.Given as goal

abbrev pub decreases-bring_all : goal.decreases-bring_all
decreases-bring_all g l = length l.list.now
