-- The defaults of the keys to come, set among the keys so far, make the keys with all defaults.
use Rattle.std.proofs.Common.{◌≡◌}
use Rattle.std.specs.List.{flat_map}
use Rattle.key_set.specs.WithAll.{with_keys}
use Rattle.model_specified.specs.Specified.{default_of, with_defaults}
use Rattle.plugin_chain.proofs.defaults.with_defaults.Given as goal

abbrev pub invariant-loop-name : goal.invariant-loop-name
invariant-loop-name l = with_keys (flat_map default_of l.name-iterator) l.made ≡ with_defaults l.specs l.keys
