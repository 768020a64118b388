-- Nothing is told of those so far.
use Rattle.std.proofs.Common.{◌≡◌, None, take}
use Rattle.general_words.specs.Searches.{first_some}
use Rattle.store_verdict.specs.Filing.{long_at}
use Rattle.store_verdict.proofs.writing.refuse_long.Given as goal

abbrev pub invariant-loop-written : goal.invariant-loop-written
invariant-loop-written l = first_some (long_at l.table) (take l.written-index l.all) ≡ None
