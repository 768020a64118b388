-- The entries of the chunks put so far and those to come are all of the other map.
use Rattle.std.proofs.Common.{◌≡◌}
use Rattle.std.specs.Vec.Iter.{into_iter_items}
use Rattle.sorted_map.specs.Merge.{put_all}
use Rattle.chunked_map.specs.Chunks.{joined}
use Rattle.chunked_map.proofs.chunked_maps.ChunkedMap.insert_all.Given as goal

abbrev pub invariant-loop-chunk : goal.invariant-loop-chunk
invariant-loop-chunk g l =
    put_all g.K.Ord.cmp (joined (into_iter_items l.chunk-iterator)) l.all ≡ put_all g.K.Ord.cmp (joined (into_iter_items l.initial.chunk-iterator)) l.self
