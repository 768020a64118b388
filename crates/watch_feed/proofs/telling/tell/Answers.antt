-- One change more is told.
use Rattle.std.proofs.Common.{◌++◌, ◌∷◌, ◌∙◌, [], ap}
use Rattle.commit_log.specs.CommitView.{change_of}
use Rattle.watch_feed.specs.News.{news_in}
use Rattle.watch_feed.proofs.NewsLemmas.{news_in-next}
use Rattle.watch_feed.proofs.telling.tell.Goals as goal

pub loop-change-preserved : goal.loop-change-preserved
loop-change-preserved c =
    c.in_ok-tell_one.ensures
    ∙ ap (λ told. told ++ news_in c.args.parent.now c.args.number (change_of c.change-item.result ∷ [])) c.loop-change.invariant
    ∙ news_in-next c.args.parent.now c.args.number c.loop-change.change-index c.args.changes.now c.change-item.result c.args.told.now.items c.loop-change-test.true c.change-item.is
