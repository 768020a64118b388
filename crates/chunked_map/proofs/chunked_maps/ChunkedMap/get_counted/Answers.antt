-- What the search found in a chunk, or did not find, is so among all entries.
use Rattle.std.proofs.Common.{◌<◌, [], length, get_or, IfOk, IfErr, ap, ◌∙◌, subst}
use Rattle.std.specs.FinMap.{find}
use Rattle.sorted_map.specs.Place.{IsPlace, IsGap}
use Rattle.chunked_map.specs.Chunks.{IsChunkOf}
use Rattle.chunked_map.proofs.SpotLemmas.{found_spot, missing_spot}
use Rattle.chunked_map.proofs.chunked_maps.ChunkedMap.get_counted.Goals as goal

pub returns-in-Ok-clause-found : goal.returns-in-Ok-clause-found
returns-in-Ok-clause-found g c =
    let R = g.K.Ord.cmp in
    let q = c.args.key.now in
    let cs = c.self.inside.chunks.items in
    let at = c.search_counted-at.result.0 in
    let r = c.search_counted-at.result.1 in
    let is = c.deref.ensures.value in
    let home = subst (λ cs. IsChunkOf R cs q at) is c.search_counted-at.ensures.home in
    let within = subst (λ cs. IfOk r (λ place. at < length cs)) is c.search_counted-at.ensures.within in
    let there = subst (λ cs. IfOk r (λ place. IsPlace R (get_or cs at []) q place)) is c.search_counted-at.ensures.there in
    found_spot R g.met.K.Ord.total q cs at home c.self.invariant r c.in-Ok.place c.in-Ok.is within there c.value_in.result.now
    (λ d. c.value_in.ensures d ∙ ap (λ cs. (get_or (get_or cs at []) c.in-Ok.place d).1) c.deref-in-Ok.ensures.value)
    ∙ ap (find R q) c.self.view_is

pub returns-in-Err-clause-found : goal.returns-in-Err-clause-found
returns-in-Err-clause-found g c =
    let R = g.K.Ord.cmp in
    let q = c.args.key.now in
    let cs = c.self.inside.chunks.items in
    let at = c.search_counted-at.result.0 in
    let r = c.search_counted-at.result.1 in
    let is = c.deref.ensures.value in
    let home = subst (λ cs. IsChunkOf R cs q at) is c.search_counted-at.ensures.home in
    let missing = subst (λ cs. IfErr r (λ place. at < length cs → IsGap R (get_or cs at []) q place)) is c.search_counted-at.ensures.missing in
    missing_spot R g.met.K.Ord.total q cs at home r c.in-Err.field-0 c.in-Err.is missing ∙ ap (find R q) c.self.view_is
