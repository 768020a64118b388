-- The key would stand at the end of the last chunk.
use Rattle.std.proofs.Common.{◌≡◌, ◌<◌, ◌-◌, [], suc, length, ap, ◌∙◌, arith}
use Rattle.general_words.proofs.Lists.{same_default}
use Rattle.chunked_map.proofs.GapLemmas.{gap_at_end}
use Rattle.chunked_map.proofs.chunks.put_behind.Goals as goal

pub put_here-requires-clause-gap : goal.put_here-requires-clause-gap
put_here-requires-clause-gap g c =
    let cs = c.args.chunks.now.items in
    let at = c.len-len.result - 1 in
    let len = c.len-len.ensures in
    let some = c.if-len-eq0.false in
    let lt : at < length cs = omega arith in
    let last : suc at ≡ length cs = omega arith in
    gap_at_end g.K.Ord.cmp g.met.K.Ord.total c.args.key cs at c.len-end.result last (c.len-end.ensures.len ∙ ap length (c.index-2.ensures ∙ same_default cs at c.index-2.result.now [] lt)) c.requires.behind.before
