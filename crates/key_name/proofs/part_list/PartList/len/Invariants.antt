use Rattle.std.proofs.Common.{◌≡◌, ◌==◌, take}
use Rattle.std.specs.List.{count_by}
use Rattle.key_name.proofs.part_list.PartList.len.Given as goal

abbrev pub invariant-loop-b : goal.invariant-loop-b
invariant-loop-b l = l.nuls ≡ count_by (λ b. b == 0) (take l.b-index l.b-items)
