-- The entry at the key's place has its value, and where there is a gap there is none.
use Rattle.std.proofs.Common.{sym, ap, ◌∙◌, subst}
use Rattle.std.specs.FinMap.{find}
use Rattle.sorted_map.specs.Place.{IsPlace}
use Rattle.sorted_map.proofs.RisingLemmas.{find-read, find-gap}
use Rattle.sorted_map.proofs.sorted_maps.SortedMap.get.Goals as goal

pub returns-in-Ok-clause-found : goal.returns-in-Ok-clause-found
returns-in-Ok-clause-found g c =
    let R = g.K.Ord.cmp in
    let there = subst (λ es. IsPlace R es c.args.key.now c.in-Ok.at) c.deref.ensures.value c.in-Ok.ensures.there in
    find-read R g.met.K.Ord.total c.args.key.now c.self.inside.sorted.items c.self.invariant c.in-Ok.at c.index.result.now there c.index.ensures
    ∙ ap (find R c.args.key.now) c.self.view_is

pub returns-in-Err-clause-found : goal.returns-in-Err-clause-found
returns-in-Err-clause-found g c =
    let R = g.K.Ord.cmp in
    sym (find-gap R g.met.K.Ord.total c.args.key.now c.deref.result.now c.in-Err.field-0 c.in-Err.ensures.missing)
    ∙ ap (find R c.args.key.now) (c.deref.ensures.value ∙ c.self.view_is)
