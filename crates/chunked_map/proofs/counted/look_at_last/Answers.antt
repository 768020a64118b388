-- A key behind the last is behind all; one that ties with it stands there, and one before it is searched for after one
-- comparison.
use Rattle.std.proofs.Common.{◌≡◌, ◌<◌, ◌-◌, suc, length, arith}
use Rattle.chunked_map.proofs.ChunkLemmas.{behind_none}
use Rattle.chunked_map.proofs.SearchLemmas.{next_before, home_tied}
use Rattle.chunked_map.proofs.counted.look_at_last.Goals as goal

pub returns-in-Less-clause-home : goal.returns-in-Less-clause-home
returns-in-Less-clause-home g c =
    let R = g.K.Ord.cmp in
    let cs = c.args.chunks.now in
    let some = c.requires.some in
    let lt : length cs - 1 < length cs = omega arith in
    let next : length cs ≡ suc (length cs - 1) = omega arith in
    behind_none R c.args.key.now cs (next_before R g.met.K.Ord.total c.args.key.now cs c.requires.chunks (length cs - 1) lt c.index-chunks-len.result c.index-chunks-len.is c.last_counted.result c.last_counted.ensures.order c.in-Less.is (length cs) next)

pub returns-in-Equal-clause-home : goal.returns-in-Equal-clause-home
returns-in-Equal-clause-home g c =
    let cs = c.args.chunks.now in
    let some = c.requires.some in
    let lt : length cs - 1 < length cs = omega arith in
    home_tied g.K.Ord.cmp g.met.K.Ord.total c.args.key.now cs c.requires.chunks (length cs - 1) lt c.index-chunks-len.result c.index-chunks-len.is c.last_counted.result c.last_counted.ensures.order c.in-Equal.is
