-- The lines so far led to the keys so far.
use Rattle.std.proofs.Common.{◌≡◌, ◌+◌, ◌≤◌, length}
use Rattle.model_maps.specs.KeyMap.{no_keys, weight}
use Rattle.model_ini.specs.Ini.{Step}
use Rattle.file_lines.proofs.Reading.{HasRead}
use Rattle.ini_storage.proofs.reading.read.Given as goal

abbrev pub invariant-loop-rest : goal.invariant-loop-rest
invariant-loop-rest l = record {
  read : HasRead Step no_keys l.bytes l.rest l.progress.keys l.number;
  sound : l.progress.weight ≡ weight l.progress.keys;
  small : l.number + length l.rest ≤ length l.bytes + 1;
}

abbrev pub decreases-loop-rest : goal.decreases-loop-rest
decreases-loop-rest l = length l.rest
