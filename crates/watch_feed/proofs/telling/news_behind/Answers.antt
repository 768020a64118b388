-- One commit more is told.
use Rattle.std.proofs.Common.{◌≡◌, ◌+◌, ◌++◌, ◌∙◌, ap, arith, map, take}
use Rattle.commit_log.specs.CommitView.{change_of, commit_of}
use Rattle.watch_feed.specs.News.{news_from, news_in}
use Rattle.watch_feed.proofs.NewsLemmas.{news_from-next}
use Rattle.watch_feed.proofs.telling.news_behind.Goals as goal

pub loop-commit-preserved : goal.loop-commit-preserved
loop-commit-preserved c =
    let parent = c.args.parent.now in
    let front = c.args.front in
    let commits = c.args.commits.now in
    let i = c.loop-commit.commit-index in
    let commit = c.commit-item.result in
    let before = news_from parent (front + 1) (map commit_of (take i commits)) in
    let number : c.loop-commit.number + 1 ≡ front + i + 1 = ap (λ n. n + 1) c.loop-commit.invariant.number in
    record {
      told =
          c.in_ok-tell.ensures
          ∙ ap (λ changes. c.loop-commit.told.items ++ news_in parent (c.loop-commit.number + 1) (map change_of changes)) c.as_slice.ensures
          ∙ ap (λ told. told ++ news_in parent (c.loop-commit.number + 1) (map change_of commit.changes)) c.loop-commit.invariant.told
          ∙ ap (λ n. before ++ news_in parent n (map change_of commit.changes)) number
          ∙ news_from-next parent front i commits commit c.loop-commit-test.true c.commit-item.is;
      number = omega (arith, c.loop-commit.invariant.number);
    }
