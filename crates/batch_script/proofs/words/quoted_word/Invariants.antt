-- What was passed stands for the bytes so far.
use Rattle.std.proofs.Common.{length}
use Rattle.batch_script.proofs.WordLemmas.{IsInQuotes}
use Rattle.batch_script.proofs.words.quoted_word.Given as goal

abbrev pub invariant-loop-byte : goal.invariant-loop-byte
invariant-loop-byte l = IsInQuotes l.line l.rest l.bytes.items

abbrev pub decreases-loop-byte : goal.decreases-loop-byte
decreases-loop-byte l = length l.rest
