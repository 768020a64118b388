-- The entry at the key's place is taken out, and where there is a gap none is.
use Rattle.std.proofs.Common.{subst, sym, ◌∙◌}
use Rattle.sorted_map.specs.Place.{IsPlace, IsGap}
use Rattle.sorted_map.proofs.RisingLemmas.{find-read, find-gap, without-place, without-gap}
use Rattle.sorted_map.proofs.sorted_maps.SortedMap.remove.Goals as goal

pub returns-in-Ok-clause-former : goal.returns-in-Ok-clause-former
returns-in-Ok-clause-former g c =
    let R = g.K.Ord.cmp in
    let there = subst (λ es. IsPlace R es c.args.key.now c.in-Ok.at) (c.deref.ensures.value ∙ c.self.view_is) c.in-Ok.ensures.there in
    find-read R g.met.K.Ord.total c.args.key.now c.args.self.now c.remove_at.ensures.sorted c.in-Ok.at c.remove_at.result there c.remove_at.ensures.entry

pub returns-in-Ok-clause-removed : goal.returns-in-Ok-clause-removed
returns-in-Ok-clause-removed g c =
    let R = g.K.Ord.cmp in
    let there = subst (λ es. IsPlace R es c.args.key.now c.in-Ok.at) (c.deref.ensures.value ∙ c.self.view_is) c.in-Ok.ensures.there in
    c.remove_at.ensures.removed
    ∙ sym (without-place R g.met.K.Ord.total c.args.key.now c.args.self.now c.remove_at.ensures.sorted c.in-Ok.at c.remove_at.result there.in_range (there.tied c.remove_at.result))

pub returns-in-Err-clause-former : goal.returns-in-Err-clause-former
returns-in-Err-clause-former g c =
    let R = g.K.Ord.cmp in
    let gap = subst (λ es. IsGap R es c.args.key.now c.in-Err.field-0) (c.deref.ensures.value ∙ c.self.view_is) c.in-Err.ensures.missing in
    sym (find-gap R g.met.K.Ord.total c.args.key.now c.args.self.now c.in-Err.field-0 gap)

pub returns-in-Err-clause-removed : goal.returns-in-Err-clause-removed
returns-in-Err-clause-removed g c =
    let R = g.K.Ord.cmp in
    let gap = subst (λ es. IsGap R es c.args.key.now c.in-Err.field-0) (c.deref.ensures.value ∙ c.self.view_is) c.in-Err.ensures.missing in
    sym (without-gap R g.met.K.Ord.total c.args.key.now c.args.self.now c.in-Err.field-0 gap)
