-- The news of the changes so far stand behind what was told before.
use Rattle.std.proofs.Common.{◌≡◌, ◌++◌, take, map}
use Rattle.commit_log.specs.CommitView.{change_of}
use Rattle.watch_feed.specs.News.{news_in}
use Rattle.watch_feed.proofs.telling.tell.Given as goal

abbrev pub invariant-loop-change : goal.invariant-loop-change
invariant-loop-change l =
    l.told.items ≡ l.initial.told.items ++ news_in l.parent l.number (map change_of (take l.change-index l.changes))
