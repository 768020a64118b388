-- Only blanks were passed.
use Rattle.std.proofs.Common.{◌≡◌, length}
use Rattle.model_ini.specs.Signs.{without_front}
use Rattle.ini_storage.specs.Plain.{is_blank_byte}
use Rattle.ini_storage.proofs.plain.behind_blanks.Given as goal

abbrev pub invariant-loop-rest : goal.invariant-loop-rest
invariant-loop-rest l = without_front is_blank_byte l.rest ≡ without_front is_blank_byte l.bytes

abbrev pub decreases-loop-rest : goal.decreases-loop-rest
decreases-loop-rest l = length l.rest
