use Rattle.model_lines.proofs.LineLemmas.{lines-ended}
use Rattle.model_lines.proofs.laws.lines_read_as_they_were_ended.Goals as goal

pub returns : goal.returns
returns c = lines-ended
