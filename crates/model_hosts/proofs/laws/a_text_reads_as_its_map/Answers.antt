use Rattle.model_hosts.proofs.Lawful.{hosts-lawful}
use Rattle.model_hosts.proofs.laws.a_text_reads_as_its_map.Goals as goal

pub returns : goal.returns
returns c = hosts-lawful.text_reads
