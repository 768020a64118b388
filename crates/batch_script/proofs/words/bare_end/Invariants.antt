-- No blank was passed.
use Rattle.std.proofs.Common.{◌≡◌, true, take}
use Rattle.std.specs.Prelude.{not}
use Rattle.std.specs.List.{list_all}
use Rattle.batch_script.specs.Words.{is_blank}
use Rattle.batch_script.proofs.words.bare_end.Given as goal

abbrev pub invariant-loop-at : goal.invariant-loop-at
invariant-loop-at l = list_all (λ c. not (is_blank c)) (take l.at l.line) ≡ true
