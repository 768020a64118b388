-- None of the mounts so far owns the name.
use Rattle.std.proofs.Common.{◌≡◌, false, take}
use Rattle.std.specs.List.{list_any}
use Rattle.set_split.specs.Involved.{owns}
use Rattle.store_verdict.proofs.long_texts.is_owned.Given as goal

abbrev pub invariant-loop-mount : goal.invariant-loop-mount
invariant-loop-mount l = list_any (λ i. owns l.points i l.name) (take l.mount-index l.mounts) ≡ false
