-- The entries from the place on are those of its chunk from there on, and the chunks behind it.
use Rattle.std.proofs.Common.{◌≡◌, ◌+◌, ◌<◌, ◌++◌, suc, [], length, take, drop, get_or, ap, ◌∙◌, subst, arith}
use Rattle.chunked_map.specs.Chunks.{joined}
use Rattle.chunked_map.proofs.CountLemmas.{drop_at_chunk}
use Rattle.chunked_map.proofs.chunked_maps.ChunkedMap.iter_from.Goals as goal

pub returns-then-at-len-clause-from : goal.returns-then-at-len-clause-from
returns-then-at-len-clause-from g c =
    let cs = c.self.inside.chunks.items in
    let at = c.place_in-at.result.0 in
    let left = c.place_in-at.result.1 in
    let lt : at < length cs = omega arith in
    let place = subst (λ cs. length (joined (take at cs)) + left ≡ c.args.place) c.deref.ensures.value c.place_in-at.ensures.place in
    let inside = subst (λ cs. at < length cs → left < length (get_or cs at [])) c.deref.ensures.value c.place_in-at.ensures.inside lt in
    let next : at + 1 ≡ suc at = omega arith in
    let behind : c.chunks_from.result.now ≡ drop (suc at) cs = c.chunks_from.ensures ∙ (λ i. drop (next i) (c.deref-then-at-len.ensures.value i)) in
    let here : c.entries_from.result.now ≡ drop left c.index.result.now = c.entries_from.ensures in
    (λ i. here i ++ joined (behind i))
    ∙ drop_at_chunk cs at left c.args.place c.index.result.now lt c.index.ensures place inside
    ∙ ap (drop c.args.place) c.self.view_is
