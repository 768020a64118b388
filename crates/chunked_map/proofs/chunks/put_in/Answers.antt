-- The chunk that has room then has the key's gap.
use Rattle.chunked_map.proofs.chunks.put_in.Goals as goal

pub put_here-requires-clause-gap : goal.put_here-requires-clause-gap
put_here-requires-clause-gap g c = c.in_ok-at.ensures.gap c.args.key c.requires.gap
