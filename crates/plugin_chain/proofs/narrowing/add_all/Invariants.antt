-- The keys so far are added.
use Rattle.std.proofs.Common.{◌≡◌, ◌++◌, take}
use Rattle.plugin_chain.specs.Globs.{lent}
use Rattle.plugin_chain.proofs.narrowing.add_all.Given as goal

abbrev pub invariant-loop-glob : goal.invariant-loop-glob
invariant-loop-glob l = lent l.found.items ≡ lent l.fn.found.items ++ take l.glob-index l.globs
