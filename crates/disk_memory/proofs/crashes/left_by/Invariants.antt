-- The crash has gone along the changes so far.
use Rattle.std.proofs.Common.{take}
use Rattle.disk_memory.proofs.CrashLemmas.{HasGone}
use Rattle.disk_memory.proofs.crashes.left_by.Given as goal

abbrev pub invariant-loop-i : goal.invariant-loop-i
invariant-loop-i l = HasGone l.number l.first (take l.i l.past) l.seen.items l.left.items
