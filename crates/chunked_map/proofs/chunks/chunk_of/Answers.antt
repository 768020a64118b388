-- A chunk that is past the key has no larger key before it, and one that is not has only larger keys behind it.
use Rattle.std.proofs.Common.{◌≡◌, ◌<◌, ◌+◌, ◌-◌, ◌/◌, suc, drop, length, arith}
use Rattle.chunked_map.specs.Chunks.{joined}
use Rattle.chunked_map.proofs.ChunkLemmas.{before_more, sorted_here}
use Rattle.chunked_map.proofs.chunks.chunk_of.Goals as goal

pub loop-low-preserved-then-is_past : goal.loop-low-preserved-then-is_past
loop-low-preserved-then-is_past g c =
    let cs = c.args.chunks.now in
    let at = c.loop-low.low + (c.loop-low.high - c.loop-low.low) / 2 in
    let chunk = c.index-chunks-middle.result in
    let lt : at < length cs = omega arith in
    let next : at + 1 ≡ suc at = omega arith in
    (omega arith, omega arith, before_more g.K.Ord.cmp c.args.key.now g.met.K.Ord.total cs c.requires at chunk lt c.index-chunks-middle.is (at + 1) next (c.if-is_past.ensures.yes tt), c.loop-low.invariant.3)

pub loop-low-preserved : goal.loop-low-preserved
loop-low-preserved g c =
    let cs = c.args.chunks.now in
    let at = c.loop-low.low + (c.loop-low.high - c.loop-low.low) / 2 in
    let chunk = c.index-chunks-middle.result in
    let lt : at < length cs = omega arith in (
      omega arith,
      omega arith,
      c.loop-low.invariant.2,
      c.if-is_past.ensures.no tt (joined (drop (suc at) cs)) (sorted_here g.K.Ord.cmp c.args.key.now g.met.K.Ord.total cs c.requires at chunk lt c.index-chunks-middle.is),
    )
