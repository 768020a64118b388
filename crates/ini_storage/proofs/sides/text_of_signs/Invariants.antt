-- The text so far, and that of the signs that are left, are that of all.
use Rattle.std.proofs.Common.{◌≡◌, ◌++◌, drop}
use Rattle.std.specs.Option.{option_map}
use Rattle.model_ini.specs.Signs.{text_of}
use Rattle.ini_storage.proofs.sides.text_of_signs.Given as goal

abbrev pub invariant-loop-sign : goal.invariant-loop-sign
invariant-loop-sign l = option_map (λ text. l.text.items ++ text) (text_of (drop l.sign-index l.side)) ≡ text_of l.side
