-- Where the search did not find the key, none is there to take out.
use Rattle.std.proofs.Common.{◌<◌, [], not, length, get_or, IfErr, sym, ap, ◌∙◌, subst}
use Rattle.std.specs.FinMap.{find}
use Rattle.std.specs.FinMap.Entries.{where_key}
use Rattle.std.specs.Ordering.{eq_by_cmp}
use Rattle.sorted_map.specs.Place.{IsGap}
use Rattle.chunked_map.specs.Chunks.{IsChunkOf}
use Rattle.chunked_map.proofs.SpotLemmas.{missing_spot, without_spot}
use Rattle.chunked_map.proofs.chunked_maps.ChunkedMap.remove.Goals as goal

pub returns-in-Err-clause-former : goal.returns-in-Err-clause-former
returns-in-Err-clause-former g c =
    let R = g.K.Ord.cmp in
    let q = c.args.key.now in
    let cs = c.self.inside.chunks.items in
    let at = c.search-at.result.0 in
    let r = c.search-at.result.1 in
    let is = c.deref.ensures.value in
    let home = subst (λ cs. IsChunkOf R cs q at) is c.search-at.ensures.home in
    let missing = subst (λ cs. IfErr r (λ place. at < length cs → IsGap R (get_or cs at []) q place)) is c.search-at.ensures.missing in
    missing_spot R g.met.K.Ord.total q cs at home r c.in-Err.field-0 c.in-Err.is missing ∙ ap (find R q) c.self.view_is

pub returns-in-Err-clause-ok : goal.returns-in-Err-clause-ok
returns-in-Err-clause-ok g c =
    let R = g.K.Ord.cmp in
    let q = c.args.key.now in
    let cs = c.self.inside.chunks.items in
    let at = c.search-at.result.0 in
    let r = c.search-at.result.1 in
    let is = c.deref.ensures.value in
    let home = subst (λ cs. IsChunkOf R cs q at) is c.search-at.ensures.home in
    let missing = subst (λ cs. IfErr r (λ place. at < length cs → IsGap R (get_or cs at []) q place)) is c.search-at.ensures.missing in
    sym c.self.view_is
    ∙ without_spot R g.met.K.Ord.total q cs at home r c.in-Err.field-0 c.in-Err.is missing
    ∙ ap (where_key R (λ k. not (eq_by_cmp R q k))) c.self.view_is
