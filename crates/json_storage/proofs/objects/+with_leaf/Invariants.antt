-- The parts that are left.
use Rattle.std.proofs.Common.{◌-◌}
use Rattle.json_storage.proofs.objects.+with_leaf.Given as goal

abbrev pub decreases-with_leaf : goal.decreases-with_leaf
decreases-with_leaf l = l.end - l.from
