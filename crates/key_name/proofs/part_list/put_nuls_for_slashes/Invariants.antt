-- The bytes so far have been turned.
use Rattle.std.proofs.Common.{◌≡◌, ◌++◌, take, drop, map}
use Rattle.key_name.specs.PartList.{nul_for_slash}
use Rattle.key_name.proofs.part_list.put_nuls_for_slashes.Given as goal

abbrev pub invariant-loop-b : goal.invariant-loop-b
invariant-loop-b l = l.bytes ≡ map nul_for_slash (take l.b-index l.fn.bytes) ++ drop l.b-index l.fn.bytes
