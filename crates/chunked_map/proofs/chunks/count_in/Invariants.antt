-- The entries of the chunks so far.
use Rattle.std.proofs.Common.{◌≡◌, take, length}
use Rattle.chunked_map.specs.Chunks.{joined}
use Rattle.chunked_map.proofs.chunks.count_in.Given as goal

abbrev pub invariant-loop-chunk : goal.invariant-loop-chunk
invariant-loop-chunk g l = l.count ≡ length (joined (take l.chunk-index l.chunks))
