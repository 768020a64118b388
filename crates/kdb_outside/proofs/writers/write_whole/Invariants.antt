-- What is left of the piece is what the writer has not taken.
use Rattle.kdb_outside.proofs.Written.{HasWritten}
use Rattle.kdb_outside.proofs.writers.write_whole.Given as goal

abbrev pub invariant-loop : goal.invariant-loop
invariant-loop g l = HasWritten (g.W.Write.contents l.fn.writer) (g.W.Write.contents l.writer) l.piece l.left
