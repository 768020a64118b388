-- No equals sign was passed, so the cut is that of what is left, behind what was passed.
use Rattle.std.proofs.Common.{◌≡◌, ◌++◌, take, drop}
use Rattle.std.specs.Option.{option_map}
use Rattle.model_ini.specs.Signs.{cut_at_equals}
use Rattle.ini_storage.proofs.sides.sides.Given as goal

abbrev pub invariant-loop-at : goal.invariant-loop-at
invariant-loop-at l =
    cut_at_equals l.signs ≡ option_map (λ sides. (take l.at l.signs ++ sides.0, sides.1)) (cut_at_equals (drop l.at l.signs))
