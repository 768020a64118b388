-- Nothing is told of those so far.
use Rattle.std.proofs.Common.{◌≡◌, None, take}
use Rattle.general_words.specs.Searches.{first_some}
use Rattle.store_verdict.specs.Filing.{heavy_at}
use Rattle.store_verdict.proofs.weighing.refuse_heavy.Given as goal

abbrev pub invariant-loop-file : goal.invariant-loop-file
invariant-loop-file l = first_some (heavy_at l.table) (take l.file-index l.files) ≡ None
