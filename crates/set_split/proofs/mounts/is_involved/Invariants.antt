-- The mount is involved in none of the names so far.
use Rattle.std.proofs.Common.{◌≡◌, false, map, take}
use Rattle.std.specs.List.{list_any}
use Rattle.set_split.specs.Involved.{is_involved_at}
use Rattle.set_split.proofs.mounts.is_involved.Given as goal

abbrev pub invariant-loop-root : goal.invariant-loop-root
invariant-loop-root l =
    list_any (is_involved_at l.points l.i) (map (λ root. root.name) (take l.root-index l.roots)) ≡ false
