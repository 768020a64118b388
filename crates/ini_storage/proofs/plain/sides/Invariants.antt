-- No equals sign was passed, so the cut is that of what is left, behind what was passed.
use Rattle.std.proofs.Common.{◌≡◌, ◌++◌, take, drop}
use Rattle.std.specs.Option.{option_map}
use Rattle.ini_storage.specs.Plain.{cut_at_byte}
use Rattle.ini_storage.proofs.plain.sides.Given as goal

abbrev pub invariant-loop-at : goal.invariant-loop-at
invariant-loop-at l =
    cut_at_byte l.bytes ≡ option_map (λ sides. (take l.at l.bytes ++ sides.0, sides.1)) (cut_at_byte (drop l.at l.bytes))
