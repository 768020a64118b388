-- The name is below none so far.
use Rattle.std.proofs.Common.{◌≡◌, drop}
use Rattle.std.specs.List.{list_any}
use Rattle.plugin_chain.specs.Owners.{is_below_at}
use Rattle.plugin_chain.proofs.choosing.is_below_one.Given as goal

abbrev pub invariant-loop-mount : goal.invariant-loop-mount
invariant-loop-mount l =
    list_any (is_below_at l.points l.name) (drop l.mount-index l.mounts) ≡ list_any (is_below_at l.points l.name) l.mounts
