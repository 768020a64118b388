-- The buffer has room for what was read.
use Rattle.std.proofs.Common.{◌≤◌, length}
use Rattle.disk_real.proofs.files.fill.Given as goal

abbrev pub invariant-loop : goal.invariant-loop
invariant-loop l = l.filled ≤ length l.buf
