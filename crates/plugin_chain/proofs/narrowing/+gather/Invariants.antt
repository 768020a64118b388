-- The parts of the path that are left.
use Rattle.std.proofs.Common.{◌-◌, length}
use Rattle.plugin_chain.proofs.narrowing.+gather.Given as goal

abbrev pub decreases-gather : goal.decreases-gather
decreases-gather l = length l.path.now.parts - l.depth
