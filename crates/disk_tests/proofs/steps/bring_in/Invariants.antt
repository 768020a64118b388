use Rattle.std.proofs.Common.{◌≡◌, true, false}
use Rattle.intent_journal.specs.Pending.{HasBroughtTo}
use Rattle.disk_tests.proofs.steps.bring_in.Given as goal

abbrev pub invariant-loop-i : goal.invariant-loop-i
invariant-loop-i g l = record {
  headed : l.journal.headed ≡ true;
  sure : l.journal.in_doubt ≡ false;
  list : l.journal.list ≡ l.fn.journal.list;
  tells : g.D.Disk.tells l.journal.disk ≡ g.D.Disk.tells l.fn.journal.disk;
  brought : g.D.Disk.tells l.fn.journal.disk ≡ true → HasBroughtTo (g.D.Disk.may_leave l.journal.disk) l.fn.journal.list l.i;
}
