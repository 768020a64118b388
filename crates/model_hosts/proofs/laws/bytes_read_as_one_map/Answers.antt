use Rattle.model_hosts.proofs.Lawful.{hosts-lawful}
use Rattle.model_hosts.proofs.laws.bytes_read_as_one_map.Goals as goal

pub returns : goal.returns
returns c = hosts-lawful.one_reading
