-- The words so far and those of what is left are those of the line.
use Rattle.std.proofs.Common.{length}
use Rattle.batch_script.proofs.WordLemmas.{HasRead}
use Rattle.batch_script.proofs.words.words_of.Given as goal

abbrev pub invariant-loop-rest : goal.invariant-loop-rest
invariant-loop-rest l = HasRead l.line l.rest l.words.items

abbrev pub decreases-loop-rest : goal.decreases-loop-rest
decreases-loop-rest l = length l.rest
