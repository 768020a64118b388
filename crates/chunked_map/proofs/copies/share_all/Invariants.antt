-- The chunks so far are shared.
use Rattle.std.proofs.Common.{◌≡◌, take}
use Rattle.chunked_map.proofs.copies.share_all.Given as goal

abbrev pub invariant-loop-chunk : goal.invariant-loop-chunk
invariant-loop-chunk g l = l.shared.items ≡ take l.chunk-index l.chunks
