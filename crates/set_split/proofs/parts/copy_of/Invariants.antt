-- The parts so far are copied.
use Rattle.std.proofs.Common.{◌≡◌, take}
use Rattle.set_split.proofs.parts.copy_of.Given as goal

abbrev pub invariant-loop-part : goal.invariant-loop-part
invariant-loop-part l = l.copied.items ≡ take l.part-index l.parts
