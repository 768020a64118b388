-- Only blanks were passed.
use Rattle.std.proofs.Common.{◌≡◌, ◌≤◌, length, take}
use Rattle.model_ini.specs.Signs.{is_blank, without_back}
use Rattle.ini_storage.proofs.sides.before_blanks.Given as goal

abbrev pub invariant-loop-end : goal.invariant-loop-end
invariant-loop-end l = record {
  within : l.end ≤ length l.signs;
  same : without_back is_blank (take l.end l.signs) ≡ without_back is_blank l.signs;
}

abbrev pub decreases-loop-end : goal.decreases-loop-end
decreases-loop-end l = l.end
