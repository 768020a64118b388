-- One entry less leaves the keys in order.
use Rattle.std.proofs.Common.{subst, sym}
use Rattle.std.specs.Prelude.{T}
use Rattle.std.specs.FinMap.{is_sorted}
use Rattle.sorted_map.proofs.RisingLemmas.{is_sorted-remove}
use Rattle.sorted_map.proofs.sorted_maps.SortedMap.remove_at.Goals as goal

pub invariant_of-self : goal.invariant_of-self
invariant_of-self g c =
    subst (λ es. T (is_sorted g.K.Ord.cmp es)) (sym c.remove.ensures.items) (is_sorted-remove g.K.Ord.cmp c.self.inside.sorted.items c.args.at c.self.invariant)
