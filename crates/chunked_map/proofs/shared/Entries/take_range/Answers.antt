-- A range of entries and what is left stay in order.
use Rattle.std.proofs.Common.{T, subst, sym}
use Rattle.std.specs.FinMap.{is_sorted}
use Rattle.general_words.proofs.Entries.{is_sorted-slice_range}
use Rattle.sorted_map.proofs.RangeLemmas.{is_sorted-remove_range}
use Rattle.chunked_map.proofs.shared.Entries.take_range.Goals as goal

pub invariant_of-result : goal.invariant_of-result
invariant_of-result g c =
    let R = g.K.Ord.cmp in
    subst (λ es. T (is_sorted R es)) (sym c.in_ok-sorted.ensures.taken) (is_sorted-slice_range R c.args.from c.args.to c.self.inside.sorted.items c.self.invariant)

pub invariant_of-self-2 : goal.invariant_of-self-2
invariant_of-self-2 g c =
    let R = g.K.Ord.cmp in
    subst (λ es. T (is_sorted R es)) (sym c.in_ok-sorted.ensures.ok) (is_sorted-remove_range R c.args.from c.args.to c.self.inside.sorted.items c.requires.order c.self.invariant)
