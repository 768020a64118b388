-- Another value leaves the keys in order.
use Rattle.sorted_map.proofs.RisingLemmas.{is_sorted-replaced}
use Rattle.sorted_map.proofs.sorted_maps.SortedMap.replace_at.Goals as goal

pub invariant_of-self : goal.invariant_of-self
invariant_of-self g c =
    is_sorted-replaced g.K.Ord.cmp c.self.inside.sorted.items c.args.at c.index_mut.result.now c.replace.new.dest (rw c.self.view_is c.requires) c.index_mut.ensures.value c.self.invariant
