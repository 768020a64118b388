use Rattle.model_dump.proofs.TextReads.{text-reads_once}
use Rattle.model_dump.proofs.laws.a_text_reads_as_no_other_map.Goals as goal

pub returns : goal.returns
returns c = text-reads_once
