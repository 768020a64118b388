-- All chunks together can be counted.
use Rattle.std.proofs.Common.{◌≡◌, length, take, arith}
use Rattle.chunked_map.specs.Chunks.{joined}
use Rattle.chunked_map.proofs.ChunkLemmas.{countable}
use Rattle.chunked_map.proofs.chunks.count_in.Goals as goal

pub overflow_add-count : goal.overflow_add-count
overflow_add-count g c =
    let within = countable g.K.Ord.cmp c.args.chunks.now c.loop-chunk.chunk-index c.chunk-item.result c.requires c.loop-chunk-test.true c.chunk-item.is in
    let sofar : c.loop-chunk.count ≡ length (joined (take c.loop-chunk.chunk-index c.args.chunks.now)) = c.loop-chunk.invariant in
    let len = c.len-count.ensures.len in
    omega arith
