-- The entries of both maps stay in order.
use Rattle.std.proofs.Common.{T, subst, sym, ap}
use Rattle.std.specs.FinMap.{is_sorted}
use Rattle.sorted_map.proofs.MergeLemmas.{is_sorted-put_all}
use Rattle.sorted_map.proofs.sorted_maps.SortedMap.insert_all.Goals as goal

pub invariant_of-self : goal.invariant_of-self
invariant_of-self g c =
    let R = g.K.Ord.cmp in
    let ours = subst (λ es. T (is_sorted R es)) (sym (ap (λ sorted. sorted.items) c.replace-ours.ensures.value)) c.self.invariant in
    subst (λ es. T (is_sorted R es)) (sym c.merge.ensures) (is_sorted-put_all R g.met.K.Ord.total c.other.inside.sorted.items c.replace-ours.result.items ours)
