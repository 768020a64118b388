use Rattle.std.proofs.Common.{◌≡◌, ◌+◌, false, drop}
use Rattle.key_name.specs.Raws.{first_len}
use Rattle.key_name.proofs.cutting.first_len.Given as goal

abbrev pub invariant-loop-i : goal.invariant-loop-i
invariant-loop-i l = first_len false l.path ≡ l.i + first_len l.is_escaped (drop l.i l.path)
