use Rattle.model_lines.proofs.LineLemmas.{lines-in_line}
use Rattle.model_lines.proofs.laws.lines_hold_no_line_feed.Goals as goal

pub returns : goal.returns
returns c = lines-in_line
