-- The parts of the mounts so far.
use Rattle.std.proofs.Common.{◌≡◌, ℕ, take, map as over}
use Rattle.model_maps.specs.KeyMap.{KeyMap}
use Rattle.model_store.specs.Sets.{wants}
use Rattle.set_split.specs.Seen.{numbered}
use Rattle.store_verdict.proofs.renewing.parts_of.Given as goal

abbrev pub invariant-loop-mount : goal.invariant-loop-mount
invariant-loop-mount l =
    numbered l.parts.items ≡ over {B = ℕ × KeyMap} (λ m. (m, wants l.points l.keys m)) (take l.mount-index l.touched)
