-- Only blanks were passed.
use Rattle.std.proofs.Common.{◌≡◌, length}
use Rattle.batch_script.specs.Words.{behind_blanks}
use Rattle.batch_script.proofs.words.behind_blanks.Given as goal

abbrev pub invariant-loop-rest : goal.invariant-loop-rest
invariant-loop-rest l = behind_blanks l.rest ≡ behind_blanks l.line

abbrev pub decreases-loop-rest : goal.decreases-loop-rest
decreases-loop-rest l = length l.rest
