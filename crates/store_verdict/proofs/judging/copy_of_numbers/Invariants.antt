-- The numbers so far have been copied.
use Rattle.std.proofs.Common.{◌≡◌, take}
use Rattle.store_verdict.proofs.judging.copy_of_numbers.Given as goal

abbrev pub invariant-loop-number : goal.invariant-loop-number
invariant-loop-number l = l.copied.items ≡ take l.number-index l.numbers
