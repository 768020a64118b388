-- As many chunks as there may be have fewer entries than can be counted.
use Rattle.std.proofs.Common.{◌<◌, ◌^◌, length, subst, arith}
use Rattle.chunked_map.specs.Chunks.{joined}
use Rattle.chunked_map.proofs.JoinLemmas.{length_sized}
use Rattle.chunked_map.proofs.chunked_maps.ChunkedMap.count_before.Goals as goal

pub returns-clause-countable : goal.returns-clause-countable
returns-clause-countable g c =
    let most = length_sized c.self.inside.chunks.items c.self.invariant.sizes in
    let count = c.self.invariant.count in
    let fits : length (joined c.self.inside.chunks.items) < 2 ^ 64 = omega arith in
    subst (λ n. n < 2 ^ 64) (λ i. length (c.self.view_is i)) fits
