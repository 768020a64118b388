use Rattle.batch_script.proofs.CountLemmas.{length-lines}
use Rattle.batch_script.proofs.laws.lines_are_counted_by_line_feeds.Goals as goal

pub returns : goal.returns
returns c = length-lines
