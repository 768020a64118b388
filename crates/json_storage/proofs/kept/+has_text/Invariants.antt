-- The parts that are left.
use Rattle.std.proofs.Common.{◌-◌}
use Rattle.json_storage.proofs.kept.+has_text.Given as goal

abbrev pub decreases-has_text : goal.decreases-has_text
decreases-has_text l = l.end - l.from
