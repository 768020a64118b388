-- Only blanks were passed.
use Rattle.std.proofs.Common.{◌≡◌, ◌≤◌, length, take}
use Rattle.model_ini.specs.Signs.{without_back}
use Rattle.ini_storage.specs.Plain.{is_blank_byte}
use Rattle.ini_storage.proofs.plain.before_blanks.Given as goal

abbrev pub invariant-loop-end : goal.invariant-loop-end
invariant-loop-end l = record {
  within : l.end ≤ length l.bytes;
  same : without_back is_blank_byte (take l.end l.bytes) ≡ without_back is_blank_byte l.bytes;
}

abbrev pub decreases-loop-end : goal.decreases-loop-end
decreases-loop-end l = l.end
