-- Of the keys at or below the point, those at or below a point so far are out.
use Rattle.std.proofs.Common.{◌≡◌, get_or, take}
use Rattle.model_names.specs.Name.{Name}
use Rattle.set_split.proofs.OwningLemmas.{IsLeft}
use Rattle.set_split.proofs.owning.owned.Given as goal

abbrev pub invariant-loop-other : goal.invariant-loop-other
invariant-loop-other l =
    (point : Name) → point ≡ get_or l.points l.i point → IsLeft l.points l.i point l.keys (take l.other-index l.behind) l.owned
