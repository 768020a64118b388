-- The numbers of the parts so far.
use Rattle.std.proofs.Common.{◌≡◌, take, map as over}
use Rattle.store_verdict.proofs.touching.numbers_of.Given as goal

abbrev pub invariant-loop-part : goal.invariant-loop-part
invariant-loop-part l = l.numbers.items ≡ over (λ part. part.mount) (take l.part-index l.parts)
