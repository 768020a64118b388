-- The key's value is written over, or the key goes into its gap.
use Rattle.std.proofs.Common.{subst, sym, ap, ◌∙◌, set}
use Rattle.std.specs.Prelude.{T}
use Rattle.std.specs.FinMap.{is_sorted, find}
use Rattle.std.specs.FinMap.Entries.{put}
use Rattle.sorted_map.specs.Place.{IsPlace, IsGap}
use Rattle.sorted_map.proofs.RisingLemmas.{is_sorted-replaced, find-read, put-read, find-gap, put-gap, is_sorted-gap}
use Rattle.sorted_map.proofs.sorted_maps.SortedMap.insert.Goals as goal

pub invariant_of-self : goal.invariant_of-self
invariant_of-self g c =
    let R = g.K.Ord.cmp in
    let there = subst (λ es. IsPlace R es c.args.key c.in-Ok.at) c.deref.ensures.value c.in-Ok.ensures.there in
    is_sorted-replaced R c.self.inside.sorted.items c.in-Ok.at c.index_mut.result.now c.replace.new.dest there.in_range c.index_mut.ensures.value c.self.invariant

pub returns-in-Ok-clause-former : goal.returns-in-Ok-clause-former
returns-in-Ok-clause-former g c =
    let R = g.K.Ord.cmp in
    let there = subst (λ es. IsPlace R es c.args.key c.in-Ok.at) c.deref.ensures.value c.in-Ok.ensures.there in
    let read = find-read R g.met.K.Ord.total c.args.key c.self.inside.sorted.items c.self.invariant c.in-Ok.at c.index_mut.result.now there c.index_mut.ensures.value in
    rw c.replace.ensures.value (read ∙ ap (find R c.args.key) c.self.view_is)

pub returns-in-Ok-clause-ok : goal.returns-in-Ok-clause-ok
returns-in-Ok-clause-ok g c =
    let R = g.K.Ord.cmp in
    let there = subst (λ es. IsPlace R es c.args.key c.in-Ok.at) c.deref.ensures.value c.in-Ok.ensures.there in
    ap (λ v. set c.self.inside.sorted.items c.in-Ok.at (c.index_mut.result.now.0, v)) c.replace.ensures.after
    ∙ put-read R g.met.K.Ord.total c.args.key c.args.value c.self.inside.sorted.items c.self.invariant c.in-Ok.at c.index_mut.result.now there c.index_mut.ensures.value
    ∙ ap (put R c.args.key c.args.value) c.self.view_is

pub invariant_of-self-in-Err : goal.invariant_of-self-in-Err
invariant_of-self-in-Err g c =
    let R = g.K.Ord.cmp in
    let gap = subst (λ es. IsGap R es c.args.key c.in-Err.at) c.deref.ensures.value c.in-Err.ensures.missing in
    subst (λ es. T (is_sorted R es)) (sym c.in_ok-insert-in-Err.ensures.items) (is_sorted-gap R g.met.K.Ord.total c.args.key c.args.value c.self.inside.sorted.items c.self.invariant c.in-Err.at gap)

pub returns-in_ok-insert-in-Err-clause-former : goal.returns-in_ok-insert-in-Err-clause-former
returns-in_ok-insert-in-Err-clause-former g c =
    let R = g.K.Ord.cmp in
    sym (find-gap R g.met.K.Ord.total c.args.key c.deref.result.now c.in-Err.at c.in-Err.ensures.missing)
    ∙ ap (find R c.args.key) (c.deref.ensures.value ∙ c.self.view_is)

pub returns-in_ok-insert-in-Err-clause-ok : goal.returns-in_ok-insert-in-Err-clause-ok
returns-in_ok-insert-in-Err-clause-ok g c =
    let R = g.K.Ord.cmp in
    let gap = subst (λ es. IsGap R es c.args.key c.in-Err.at) c.deref.ensures.value c.in-Err.ensures.missing in
    c.in_ok-insert-in-Err.ensures.items
    ∙ sym (put-gap R g.met.K.Ord.total c.args.key c.args.value c.self.inside.sorted.items c.in-Err.at gap)
    ∙ ap (put R c.args.key c.args.value) c.self.view_is
