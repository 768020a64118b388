-- No more than the piece was written.
use Rattle.std.proofs.Common.{◌≤◌, length}
use Rattle.disk_real.proofs.files.write_whole.Given as goal

abbrev pub invariant-loop : goal.invariant-loop
invariant-loop l = l.done ≤ length l.piece
