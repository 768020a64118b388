-- One entry less leaves the keys in order, and it is the key's.
use Rattle.std.proofs.Common.{subst, sym, ap, ◌∙◌, not}
use Rattle.std.specs.Prelude.{T}
use Rattle.std.specs.FinMap.{is_sorted, find}
use Rattle.std.specs.FinMap.Entries.{where_key}
use Rattle.std.specs.Ordering.{eq_by_cmp}
use Rattle.sorted_map.specs.Place.{IsPlace}
use Rattle.sorted_map.proofs.RisingLemmas.{is_sorted-remove, find-read, without-place}
use Rattle.chunked_map.proofs.shared.Entries.remove_at.Goals as goal

pub invariant_of-self : goal.invariant_of-self
invariant_of-self g c =
    subst (λ es. T (is_sorted g.K.Ord.cmp es)) (sym c.remove-value.ensures.items) (is_sorted-remove g.K.Ord.cmp c.self.inside.sorted.items c.args.at c.self.invariant)

pub returns-clause-former : goal.returns-clause-former
returns-clause-former g c key place =
    let R = g.K.Ord.cmp in
    let there = subst (λ es. IsPlace R es key c.args.at) (sym c.self.view_is) place in
    find-read R g.met.K.Ord.total key c.self.inside.sorted.items c.self.invariant c.args.at c.remove-value.result there c.remove-value.ensures.value
    ∙ ap (find R key) c.self.view_is

pub returns-clause-removed : goal.returns-clause-removed
returns-clause-removed g c key place =
    let R = g.K.Ord.cmp in
    let there = subst (λ es. IsPlace R es key c.args.at) (sym c.self.view_is) place in
    c.remove-value.ensures.items
    ∙ sym (without-place R g.met.K.Ord.total key c.self.inside.sorted.items c.self.invariant c.args.at c.remove-value.result there.in_range (there.tied c.remove-value.result))
    ∙ ap (where_key R (λ k. not (eq_by_cmp R key k))) c.self.view_is
