-- Only blanks were passed.
use Rattle.std.proofs.Common.{◌≡◌, length}
use Rattle.model_ini.specs.Signs.{is_blank, without_front}
use Rattle.ini_storage.proofs.sides.behind_blanks.Given as goal

abbrev pub invariant-loop-rest : goal.invariant-loop-rest
invariant-loop-rest l = without_front is_blank l.rest ≡ without_front is_blank l.signs

abbrev pub decreases-loop-rest : goal.decreases-loop-rest
decreases-loop-rest l = length l.rest
