-- The news of the commits so far.
use Rattle.std.proofs.Common.{◌≡◌, ◌+◌, take, map}
use Rattle.commit_log.specs.CommitView.{commit_of}
use Rattle.watch_feed.specs.News.{news_from}
use Rattle.watch_feed.proofs.telling.news_behind.Given as goal

abbrev pub invariant-loop-commit : goal.invariant-loop-commit
invariant-loop-commit l = record {
  told : l.told.items ≡ news_from l.parent (l.front + 1) (map commit_of (take l.commit-index l.commits));
  number : l.number ≡ l.front + l.commit-index;
}
