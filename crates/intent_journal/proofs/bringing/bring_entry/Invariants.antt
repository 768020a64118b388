use Rattle.std.proofs.Common.{◌≡◌, true, take, Ok}
use Rattle.kdb_outside.specs.Frames.{GoesOn}
use Rattle.intent_journal.specs.Bringing.{Brings}
use Rattle.journal_lists.specs.Lists.{as_one}
use Rattle.intent_journal.proofs.bringing.bring_entry.Given as goal

abbrev pub invariant-loop-text : goal.invariant-loop-text
invariant-loop-text g l = record {
  goes : GoesOn g.D.Disk l.initial.disk l.disk;
  told : g.D.Disk.tells l.initial.disk ≡ true → Brings g.D.Disk l.initial.disk l.disk (Ok tt) (take l.text-index l.entry) (as_one l.later);
}
