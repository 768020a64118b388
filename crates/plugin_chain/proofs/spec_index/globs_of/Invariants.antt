-- The keys so far with holes, and those of the keys to come, are those of all keys.
use Rattle.std.proofs.Common.{◌≡◌, ◌++◌, map}
use Rattle.std.specs.FinMap as finite
use Rattle.std.specs.List.{filter}
use Rattle.model_specified.specs.Globs.{has_glob}
use Rattle.plugin_chain.specs.Globs.{seen}
use Rattle.plugin_chain.proofs.spec_index.globs_of.Given as goal

abbrev pub invariant-loop-name : goal.invariant-loop-name
invariant-loop-name l =
    map seen l.globs.items ++ filter (λ key. has_glob key.0.parts) l.name-iterator ≡ filter (λ key. has_glob key.0.parts) (finite.entries l.keys)
