-- Each chunk has some entries, and 64 at most.
use Rattle.std.proofs.Common.{◌≤◌, ◌*◌, length, subst, ap, sym}
use Rattle.chunked_map.proofs.CostLemmas.{no_more_chunks}
use Rattle.chunked_map.proofs.JoinLemmas.{length_sized}
use Rattle.chunked_map.proofs.chunked_maps.ChunkedMap.chunk_count.Goals as goal

pub returns-clause-some : goal.returns-clause-some
returns-clause-some g c =
    let cs = c.self.inside.chunks.items in
    let count = ap length c.as_slice.ensures.value in
    let more = subst (λ n. length cs ≤ n) (ap length c.self.view_is) (no_more_chunks cs c.self.invariant.sizes) in
    subst (λ n. n ≤ length c.args.self.now) (sym count) more

pub returns-clause-few : goal.returns-clause-few
returns-clause-few g c =
    let cs = c.self.inside.chunks.items in
    let count = ap length c.as_slice.ensures.value in
    let few = subst (λ n. n ≤ 64 * length cs) (ap length c.self.view_is) (length_sized cs c.self.invariant.sizes) in
    subst (λ n. length c.args.self.now ≤ 64 * n) (sym count) few
