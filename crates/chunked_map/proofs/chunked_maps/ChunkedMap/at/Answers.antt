-- The entry stands in the chunk that has its place.
use Rattle.std.proofs.Common.{◌≡◌, ◌+◌, ◌<◌, [], length, take, get_or, slice_get, ap, ◌∙◌, subst, arith}
use Rattle.chunked_map.specs.Chunks.{joined}
use Rattle.chunked_map.proofs.RangeLemmas.{get_in}
use Rattle.chunked_map.proofs.chunked_maps.ChunkedMap.at.Goals as goal

pub returns-then-chunk-len-clause-at : goal.returns-then-chunk-len-clause-at
returns-then-chunk-len-clause-at g c =
    let cs = c.self.inside.chunks.items in
    let at = c.place_in-chunk.result.0 in
    let left = c.place_in-chunk.result.1 in
    let lt : at < length cs = omega arith in
    let place = subst (λ cs. length (joined (take at cs)) + left ≡ c.args.i) c.deref.ensures.value c.place_in-chunk.ensures.place in
    let inside = subst (λ cs. at < length cs → left < length (get_or cs at [])) c.deref.ensures.value c.place_in-chunk.ensures.inside lt in
    c.at.ensures.at ∙ get_in cs at left c.args.i c.index.result.now lt c.index.ensures place inside
    ∙ ap (λ es. slice_get es c.args.i) c.self.view_is
