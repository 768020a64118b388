-- A key of which only the gap was found had no value.
use Rattle.chunked_map.proofs.SpotLemmas.{missing_spot}
use Rattle.chunked_map.proofs.chunks.put_at.Goals as goal

pub returns-after-at-len-clause-former : goal.returns-after-at-len-clause-former
returns-after-at-len-clause-former g c =
    missing_spot g.K.Ord.cmp g.met.K.Ord.total c.args.key c.args.chunks.now.items c.args.at c.requires.home c.args.place c.in-Err.place c.in-Err.is c.requires.missing
