-- The bytes so far are torn.
use Rattle.std.proofs.Common.{◌≡◌, take}
use Rattle.disk_memory.specs.Choices.{torn_bytes}
use Rattle.disk_memory.proofs.torn.torn_bytes.Given as goal

abbrev pub invariant-loop-i : goal.invariant-loop-i
invariant-loop-i l = l.torn.items ≡ torn_bytes l.choice l.place l.former (take l.i l.bytes)
