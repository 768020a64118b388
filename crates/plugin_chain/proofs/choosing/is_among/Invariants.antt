-- No mount so far is the owner.
use Rattle.std.proofs.Common.{◌≡◌, nat_eq, drop}
use Rattle.std.specs.List.{list_any}
use Rattle.plugin_chain.proofs.choosing.is_among.Given as goal

abbrev pub invariant-loop-mount : goal.invariant-loop-mount
invariant-loop-mount l = list_any (nat_eq l.owner) (drop l.mount-index l.mounts) ≡ list_any (nat_eq l.owner) l.mounts
