-- The parts of the mounts so far, and how many keys none of them owns.
use Rattle.std.proofs.Common.{◌≡◌, length, map as over, take}
use Rattle.std.specs.FinMap as map
use Rattle.set_split.specs.Parts.{owned_by}
use Rattle.set_split.specs.Seen.{numbered}
use Rattle.set_split.proofs.SplitLemmas.{unowned}
use Rattle.set_split.proofs.splitting.split.Given as goal

abbrev pub invariant-loop-mount : goal.invariant-loop-mount
invariant-loop-mount l = record {
  made : numbered l.parts.items ≡ over (λ i. (i, owned_by l.points i l.keys)) (take l.mount-index l.mount-items);
  counted_aside : l.aside ≡ length (map.entries (unowned l.points l.keys (take l.mount-index l.mount-items)));
}
