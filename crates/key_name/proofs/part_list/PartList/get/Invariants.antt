use Rattle.std.proofs.Common.{◌≡◌, drop}
use Rattle.key_name.proofs.part_list.PartList.get.Given as goal

abbrev pub invariant-loop-past : goal.invariant-loop-past
invariant-loop-past l = l.parts ≡ drop l._past l.fn.self
