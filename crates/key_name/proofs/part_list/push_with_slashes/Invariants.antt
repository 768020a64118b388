-- The bytes so far have been pushed.
use Rattle.std.proofs.Common.{◌≡◌, ◌++◌, take, map}
use Rattle.key_name.specs.PartList.{slash_for_nul}
use Rattle.key_name.proofs.part_list.push_with_slashes.Given as goal

abbrev pub invariant-loop-b : goal.invariant-loop-b
invariant-loop-b l = l.bytes.items ≡ l.fn.bytes.items ++ map slash_for_nul (take l.b-index l.text)
