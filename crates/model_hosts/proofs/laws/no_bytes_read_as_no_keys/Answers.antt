use Rattle.model_hosts.proofs.Lawful.{hosts-lawful}
use Rattle.model_hosts.proofs.laws.no_bytes_read_as_no_keys.Goals as goal

pub returns : goal.returns
returns c = hosts-lawful.empty_reads
