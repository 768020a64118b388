-- The signs so far, and those of what is left with the backslash that waits, are those of the line.
use Rattle.std.proofs.Common.{◌≡◌, ◌++◌, drop}
use Rattle.model_ini.specs.Signs.{signs}
use Rattle.ini_storage.specs.Held.{held}
use Rattle.ini_storage.proofs.signs.signs_of.Given as goal

abbrev pub invariant-loop-byte : goal.invariant-loop-byte
invariant-loop-byte l = l.found.items ++ signs (held l.covers (drop l.byte-index l.line)) ≡ signs l.line
