use Rattle.watch_feed.proofs.PollLemmas.{polls-tell}
use Rattle.watch_feed.proofs.laws.polls_tell_each_change_once.Goals as goal

pub returns : goal.returns
returns c = λ history parent room from fronts. polls-tell history parent room from fronts
