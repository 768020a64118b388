use Rattle.watch_feed.proofs.WatchLemmas.{collected-twice}
use Rattle.watch_feed.proofs.laws.two_collects_are_one.Goals as goal

pub returns : goal.returns
returns c = collected-twice
