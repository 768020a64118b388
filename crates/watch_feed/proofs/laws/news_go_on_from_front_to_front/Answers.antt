use Rattle.watch_feed.proofs.NewsLemmas.{news-goes_on}
use Rattle.watch_feed.proofs.laws.news_go_on_from_front_to_front.Goals as goal

pub returns : goal.returns
returns c = λ history from middle to parent. news-goes_on parent history from middle to
