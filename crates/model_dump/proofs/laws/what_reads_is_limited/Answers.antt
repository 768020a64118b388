use Rattle.model_dump.proofs.LimitedReads.{Reads-limited}
use Rattle.model_dump.proofs.laws.what_reads_is_limited.Goals as goal

pub returns : goal.returns
returns c = Reads-limited
