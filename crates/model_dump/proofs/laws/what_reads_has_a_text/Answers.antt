use Rattle.model_dump.proofs.LimitedReads.{Reads-limited}
use Rattle.model_dump.proofs.TextReads.{text-reads}
use Rattle.model_dump.proofs.laws.what_reads_has_a_text.Goals as goal

pub returns : goal.returns
returns c bytes keys reads = text-reads keys (Reads-limited bytes keys reads)
