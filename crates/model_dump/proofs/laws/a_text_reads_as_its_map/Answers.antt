use Rattle.model_dump.proofs.TextReads.{text-reads}
use Rattle.model_dump.proofs.laws.a_text_reads_as_its_map.Goals as goal

pub returns : goal.returns
returns c = text-reads
